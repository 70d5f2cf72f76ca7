use Rattle.command_words.specs.declared.command.Intake.TheVariants.{Line, All}
use Rattle.request_body.specs.Bodies.{input_of}
use Rattle.request_body.proofs.BodyLemmas.{over_body, long_body}
use Rattle.request_body.proofs.body.read_body.Goals as goal

pub returns-in-All-clause-over : goal.returns-in-All-clause-over
returns-in-All-clause-over g c = over_body All (input_of g.S.Source.meaning c.args.input.now c.read_rest.new.input) c.read_rest.result c.read_rest.ensures.taken

pub returns-in-Line-clause-over : goal.returns-in-Line-clause-over
returns-in-Line-clause-over g c = over_body Line (input_of g.S.Source.meaning c.args.input.now c.read_one.new.input) c.read_one.result c.read_one.ensures.taken

pub returns-in-All-clause-long : goal.returns-in-All-clause-long
returns-in-All-clause-long g c = long_body All (input_of g.S.Source.meaning c.args.input.now c.read_rest.new.input) c.read_rest.result c.read_rest.ensures.taken

pub returns-in-Line-clause-long : goal.returns-in-Line-clause-long
returns-in-Line-clause-long g c = long_body Line (input_of g.S.Source.meaning c.args.input.now c.read_one.new.input) c.read_one.result c.read_one.ensures.taken
