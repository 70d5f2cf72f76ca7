use Rattle.gopass_cli.specs.Texts.{bad_words}
use Rattle.gopass_cli.proofs.reply.refuse_words.Goals as goal

pub returns : goal.returns
returns c = c.refuse_by.ensures (bad_words c.args.at) c.bad_words.ensures
