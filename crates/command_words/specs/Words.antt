-- Which command a list of words gives, or the place of the first word that is bad.
use Rattle.std.specs.Prelude.{ℕ, ◌+◌, ◌==◌, nat_lt, Bool, true, ◌&&◌, ◌||◌, not, List, [], ◌∷◌, ◌++◌, length, slice_index, Option, None, Some, Result, Ok, Err, codes, bytes_eq, if◌then◌else◌}
use Rattle.std.specs.List.{filter, list_any}
use Rattle.gopass_base.specs.Text.{Text}
use Rattle.command_words.specs.declared.options.Flag.{Flag}
use Rattle.command_words.specs.declared.options.Flags.{Flags}
use Rattle.command_words.specs.declared.verb.Verb.{Verb}
use Rattle.command_words.specs.declared.verb.Form.{Form}
use Rattle.command_words.specs.declared.kind.Kind.{Kind}
use Rattle.command_words.specs.declared.kind.Kind.TheVariants.{Dashes, Given, Plain, Unknown}
use Rattle.command_words.specs.Options.{flag_at, has, no_flags, with}
use Rattle.command_words.specs.Forms.{form_of, verb_at}
use Rattle.command_words.specs.Invocations.{Invocation}

-- ---- options and plain words
abbrev pub is_dashes : Text → Bool
is_dashes word = bytes_eq word (codes "--")

-- a word that begins with `-` and has more than one byte
abbrev pub is_option : Text → Bool
is_option word = nat_lt 1 (length word) && (slice_index word 0 == 45)

-- the words before the first `--`
abbrev pub before_dashes : List Text → List Text
before_dashes [] = []
before_dashes (word ∷ words) = if is_dashes word then [] else word ∷ before_dashes words

-- the words behind the first `--`
abbrev pub after_dashes : List Text → List Text
after_dashes [] = []
after_dashes (word ∷ words) = if is_dashes word then words else after_dashes words

abbrev pub options : List Text → List Text
options words = filter is_option (before_dashes words)

abbrev pub plain_words : List Text → List Text
plain_words words = filter (λ word. not (is_option word)) (before_dashes words) ++ after_dashes words

abbrev pub with_option : Flags → Option Flag → Flags
with_option flags None = flags
with_option flags (Some flag) = with flags flag

-- some options, and those that words spell
abbrev pub given : Flags → List Text → Flags
given flags [] = flags
given flags (word ∷ words) = given (with_option flags (flag_at word)) words

-- ---- bad words
abbrev pub kind_of_option : Option Flag → Kind
kind_of_option None = Unknown
kind_of_option (Some flag) = Given flag

abbrev pub option_kind : Text → Kind
option_kind word = kind_of_option (flag_at word)

-- what a word is, where it stands behind `--` or not
abbrev pub kind_at : Bool → Text → Kind
kind_at is_behind word =
    if is_behind then Plain
    else if is_dashes word then Dashes
    else if is_option word then option_kind word
    else Plain

-- what may not stand behind some options and so many plain words: an option that the command
-- does not have or that is among them, a plain word too many, and `--` for a subcommand
abbrev pub is_bad : Form → Flags → ℕ → Kind → Bool
is_bad form flags count Dashes = form.has_subcommands
is_bad form flags count (Given flag) = not (has form.flags flag) || has flags flag
is_bad form flags count Unknown = true
is_bad form flags count Plain = not (nat_lt count form.most)

-- whether a word may not stand behind the words before it
abbrev pub is_bad_behind : Form → List Text → Text → Bool
is_bad_behind form before word = is_bad form (given no_flags (options before)) (length (plain_words before)) (kind_at (list_any is_dashes before) word)

-- the place in the command line of the first word that may not stand behind the words before it
abbrev pub first_bad : Form → List Text → List Text → Option ℕ
first_bad form before [] = None
first_bad form before (word ∷ words) = if is_bad_behind form before word then Some (length before + 1) else first_bad form (before ++ word ∷ []) words

-- ---- the command
abbrev pub said_if_enough : Verb → List Text → Result Invocation ℕ
said_if_enough verb words =
    if nat_lt (length (plain_words words)) (form_of verb).least then Err (length words + 1)
    else Ok (record { verb = verb; flags = given no_flags (options words); plain = plain_words words })

abbrev pub said_unless : Option ℕ → Result Invocation ℕ → Result Invocation ℕ
said_unless None said = said
said_unless (Some at) said = Err at

abbrev pub said_with : Option Verb → List Text → Result Invocation ℕ
said_with None words = Err 0
said_with (Some verb) words = said_unless (first_bad (form_of verb) [] words) (said_if_enough verb words)

-- what the words say, or the place of the first that is bad
abbrev pub words_in : List Text → Result Invocation ℕ
words_in [] = Err 0
words_in (word ∷ words) = said_with (verb_at word) words
