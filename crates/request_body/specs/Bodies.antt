-- The body of a request, which is taken from the input.
use Rattle.std.specs.Prelude.{◌+◌, ◌≡◌, ◌≢◌, ℕ, ◌<◌, ◌≤◌, [], ◌∷◌, ◌++◌, ⊤, min, length, drop, Option, Result, Ok, Err, Vec}
use Rattle.gopass_base.specs.Text.{Text}
use Rattle.gopass_base.specs.Lines.{Lacks}
use Rattle.gopass_base.specs.Faults.{Rose, counted}
use Rattle.io_ports.specs.Told.{Told}
use Rattle.io_ports.specs.Source.{SourceMeaning, Grew, GrewUpTo, GrewOnce}
use Rattle.io_ports.specs.Input.{CameSome, content_of, first_line}
use Rattle.command_words.specs.declared.command.Intake.{Intake}
use Rattle.command_words.specs.declared.command.Intake.TheVariants.{Line, All}
use Rattle.io_ports.specs.declared.input.InputFault.{InputFault}
use Rattle.io_ports.specs.declared.input.InputFault.TheVariants as input
use Rattle.request_body.specs.declared.body.BodyFault.{BodyFault}
use Rattle.request_body.specs.declared.body.BodyFault.TheVariants.{Missing, Long, Failed, NoMemory}

-- the input at two moments: what is left of it, where it tells that, and its counts
pub record Input : Type 0 where
  pub before : Option Text
  pub after : Option Text
  pub old_taken : ℕ
  pub new_taken : ℕ
  pub old_ends : ℕ
  pub new_ends : ℕ
  pub old_faults : ℕ
  pub new_faults : ℕ

abbrev pub input_of : {S : Type 0} → SourceMeaning S → (old new : S) → Input
input_of meaning old new = record {
  before = meaning.left old;
  after = meaning.left new;
  old_taken = meaning.taken old;
  new_taken = meaning.taken new;
  old_ends = meaning.ends old;
  new_ends = meaning.ends new;
  old_faults = meaning.faults old;
  new_faults = meaning.faults new;
}

-- what of a text is to be the body: all of it, or its first line, with its LF where it has one
abbrev pub due_of : (intake : Intake) → Text → Text
due_of All text = text
due_of Line text = (first_line text).0

-- the body that this makes: it alone, or what the line says with a line feed behind it
abbrev pub body_of : (intake : Intake) → Text → Text
body_of All due = due
body_of Line due = content_of due ++ 10 ∷ []

-- so many bytes of the input make a body at most; of more, one is taken beyond them
abbrev pub most_input : ℕ
most_input = 16777216

abbrev pub most_taken : ℕ
most_taken = most_input + 1

-- the most bytes of a body: that of one line has one more, since a line feed may be added
abbrev pub most_of : (intake : Intake) → ℕ
most_of All = most_input
most_of Line = most_taken

-- the body of one line: the line, with a line feed behind it. There is none where no byte of the input is left
pub record IsLineBody (body before after : Text) : Type 0 where
  pub some : before ≢ []
  pub short : length (first_line before).0 ≤ most_input
  pub body_is : body ≡ content_of before ++ 10 ∷ []
  pub left : after ≡ (first_line before).1

-- the body of all the input, which may be empty
pub record IsAllBody (body before after : Text) : Type 0 where
  pub body_is : body ≡ before
  pub short : length before ≤ most_input
  pub left : after ≡ []

abbrev pub IsBody : (intake : Intake) → (body before after : Text) → Type 0
IsBody All body before after = IsAllBody body before after
IsBody Line body before after = IsLineBody body before after

-- what came for a body ends with the end of the input: all of it does, and a line without an LF
abbrev pub IsLast : (intake : Intake) → Text → Type 0
IsLast All due = ⊤
IsLast Line due = Lacks 10 due

-- a body is taken of the input. Told or not, it is made of as many bytes as came, which are at most 16,777,216 and, where it is
-- one line, some; where the input tells what it has left, it is the body that is there
pub record GivesBody (intake : Intake) (body : Text) (input : Input) : Type 0 where
  pub due : Text
  pub whole : due_of intake due ≡ due
  pub some : intake ≡ Line → due ≢ []
  pub short : length due ≤ most_input
  pub body_is : body ≡ body_of intake due
  pub came : Grew (length due) input.old_taken input.new_taken
  pub ended : GrewOnce input.old_ends input.new_ends (IsLast intake due)
  pub told : Told (IsBody intake body) input.before input.after

-- there is no body of one line: the end of the input came at once
pub record IsMissing (intake : Intake) (input : Input) : Type 0 where
  pub line : intake ≡ Line
  pub none : input.new_taken ≡ input.old_taken
  pub ended : input.new_ends ≡ counted input.old_ends
  pub told : Told (λ before after. (before ≡ []) × (after ≡ [])) input.before input.after

-- the input is over its limit
abbrev pub IsOver : (before after : Text) → Type 0
IsOver before after = most_input < length before

-- what is to be the body is too long, and one byte more came of it than a body has
pub record IsLong (intake : Intake) (before after : Text) : Type 0 where
  pub over : most_input < length (due_of intake before)
  pub left : after ≡ drop most_taken before

-- it is, told or not: that many bytes came, and the end did not
pub record IsTooLong (intake : Intake) (input : Input) : Type 0 where
  pub came : Grew most_taken input.old_taken input.new_taken
  pub goes_on : input.new_ends ≡ input.old_ends
  pub told : Told (IsLong intake) input.before input.after

-- it was cut off: some of what is to be the body came, and at most one byte more than a body has
pub record IsCutOff (intake : Intake) (input : Input) : Type 0 where
  pub came : GrewUpTo most_taken input.old_taken input.new_taken
  pub told : Told (λ before. CameSome (min most_taken (length (due_of intake before))) before) input.before input.after

-- why no body is taken of the input
abbrev pub RefusesBody : (intake : Intake) → Input → BodyFault → Type 0
RefusesBody intake input Missing = IsMissing intake input
RefusesBody intake input Long = IsTooLong intake input
RefusesBody intake input Failed = Rose input.old_faults input.new_faults × IsCutOff intake input
RefusesBody intake input NoMemory = IsCutOff intake input

-- what is answered where a body is to be taken
abbrev pub TakesBody : {A : Type 0} → (intake : Intake) → Input → Result (Vec ℕ A) BodyFault → Type 0
TakesBody intake input (Ok body) = GivesBody intake body.items input
TakesBody intake input (Err fault) = RefusesBody intake input fault

-- what a fault of reading makes of the body
abbrev pub body_fault : InputFault → BodyFault
body_fault input.Failed = Failed
body_fault input.Long = Long
body_fault input.NoMemory = NoMemory

-- the last byte is a line feed
abbrev pub HasLf : Text → Type 0
HasLf line = (says : Text) × (line ≡ says ++ 10 ∷ [])
