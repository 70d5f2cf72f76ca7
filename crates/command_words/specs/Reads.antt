-- What the functions that read words answer.
use Rattle.std.specs.Prelude.{◌≡◌, ℕ, List, [], map, string_bytes, None, Some, Result, Ok, Err}
use Rattle.gopass_base.specs.Text.{Text}
use Rattle.command_words.specs.declared.command.Command.{Command}
use Rattle.command_words.specs.declared.reading.Sorting.{Sorting}
use Rattle.command_words.specs.declared.reading.WordsFault.{WordsFault}
use Rattle.command_words.specs.declared.reading.WordsFault.TheVariants.{Bad, NoMemory}
use Rattle.command_words.specs.declared.verb.Form.{Form}
use Rattle.command_words.specs.Options.{no_flags}
use Rattle.command_words.specs.Invocations.{Invocation, invocation_of}
use Rattle.command_words.specs.Words.{first_bad, given, options, plain_words}

-- the command that the words say, or the place of the first that is bad
abbrev pub ReadsWords : Result Command WordsFault → Result Invocation ℕ → Type 0
ReadsWords (Ok command) words = words ≡ Ok (invocation_of command)
ReadsWords (Err (Bad at)) words = words ≡ Err at
ReadsWords (Err NoMemory) words = Unit {0}

pub record IsSorted (sorting : Sorting) (form : Form) (words : List Text) : Type 0 where
  pub good : first_bad form [] words ≡ None
  pub flags : sorting.flags ≡ given no_flags (options words)
  pub plain : map string_bytes sorting.plain.items ≡ plain_words words

-- the options and the plain words among words, or the place of the first that is bad
abbrev pub Sorts : Result Sorting WordsFault → Form → List Text → Type 0
Sorts (Ok sorting) form words = IsSorted sorting form words
Sorts (Err (Bad at)) form words = first_bad form [] words ≡ Some at
Sorts (Err NoMemory) form words = Unit {0}
