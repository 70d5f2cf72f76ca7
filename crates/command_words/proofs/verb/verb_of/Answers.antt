use Rattle.std.proofs.Common.{refl, ◌∙◌}
use Rattle.command_words.specs.Forms.{commands}
use Rattle.command_words.specs.declared.verb.TheConstants.{COMMANDS}
use Rattle.command_words.proofs.Lookup.{same}
use Rattle.command_words.proofs.verb.verb_of.Goals as goal

pub returns : goal.returns
returns c = c.find.ensures ∙ same COMMANDS commands c.args.word.now (record { words = refl; meanings = refl })
