use Rattle.std.proofs.Common.{refl, ◌∙◌}
use Rattle.command_words.specs.Options.{spellings}
use Rattle.command_words.specs.declared.options.TheConstants.{SPELLINGS}
use Rattle.command_words.proofs.Lookup.{same}
use Rattle.command_words.proofs.options.flag_of.Goals as goal

pub returns : goal.returns
returns c = c.find.ensures ∙ same SPELLINGS spellings c.args.word.now (record { words = refl; meanings = refl })
