-- The body that a command is given.
use Rattle.std.specs.Prelude.{◌≡◌, ◌≤◌, ⊤, Bool, length, is_some, option_map, Option, None, Some, Vec, ℕ}
use Rattle.gopass_base.specs.Text.{Text}
use Rattle.command_words.specs.Takes.{takes}
use Rattle.command_words.specs.declared.command.Command.{Command}
use Rattle.command_words.specs.declared.command.Intake.{Intake}
use Rattle.request_body.specs.declared.body.BodyFault.{BodyFault}
use Rattle.request_body.specs.Bodies.{Input, GivesBody, RefusesBody, most_of}

-- whether the command is given a body
abbrev pub takes_body : Command → Bool
takes_body command = is_some (takes command)

-- the bytes of a body
abbrev pub bytes_of : {A : Type 0} → Option (Vec ℕ A) → Option Text
bytes_of body = option_map (λ bytes. bytes.items) body

-- nothing is taken of the input, and it is not asked
pub record IsLeft (input : Input) : Type 0 where
  pub left : input.after ≡ input.before
  pub taken : input.new_taken ≡ input.old_taken
  pub ends : input.new_ends ≡ input.old_ends
  pub faults : input.new_faults ≡ input.old_faults

-- the body that is given where this is taken; where nothing is, there is none, and the input is left
abbrev pub GivenFor : Option Intake → Input → Option Text → Type 0
GivenFor (Some intake) input (Some body) = GivesBody intake body input
GivenFor None input None = IsLeft input
GivenFor _ input body = ⊥

-- how long a body may be
abbrev pub SizedFor : Option Intake → Option Text → Type 0
SizedFor (Some intake) (Some body) = length body ≤ most_of intake
SizedFor _ body = ⊤

-- why no body is given where this is taken
abbrev pub RefusedFor : Option Intake → Input → BodyFault → Type 0
RefusedFor (Some intake) input fault = RefusesBody intake input fault
RefusedFor None input fault = ⊥

-- the body that the command is given
abbrev pub IsGiven : Command → Input → Option Text → Type 0
IsGiven command input body = GivenFor (takes command) input body

-- how long the body of a command may be
abbrev pub IsSized : Command → Option Text → Type 0
IsSized command body = SizedFor (takes command) body

-- why a command is given no body
abbrev pub IsNoBody : Command → Input → BodyFault → Type 0
IsNoBody command input fault = RefusedFor (takes command) input fault
