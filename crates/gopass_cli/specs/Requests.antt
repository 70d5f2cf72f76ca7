-- What a run says of a command and its body.
use Rattle.std.specs.Prelude.{◌≡◌, ◌⊎◌, Option, None, Some, codes}
use Rattle.gopass_base.specs.Text.{Text}
use Rattle.gopass_base.specs.Faults.{Rose}
use Rattle.cipher_port.specs.Tool.{Ring}
use Rattle.command_words.specs.declared.command.Command.{Command}
use Rattle.command_words.specs.declared.command.Intake.{Intake}
use Rattle.command_words.specs.Takes.{takes}
use Rattle.request_body.specs.declared.body.BodyFault.{BodyFault}
use Rattle.request_body.specs.declared.body.BodyFault.TheVariants.{Missing, Long, Failed, NoMemory}
use Rattle.request_body.specs.Bodies.{Input, IsCutOff, IsMissing, IsTooLong}
use Rattle.request_body.specs.Given.{IsGiven}
use Rattle.store_state.specs.State.{State}
use Rattle.store_core.specs.Events.{Events}
use Rattle.gopass_cli.specs.declared.status.Status.TheVariants.{BadWords, InputFailed}
use Rattle.gopass_cli.specs.Said.{Said, refused, said_of, unsaid}
use Rattle.gopass_cli.specs.Actions.{subject_of}
use Rattle.gopass_cli.specs.Plan.{plan_of}

-- what is said where a command is given no body, by the reason
abbrev pub body_said : BodyFault → Said
body_said Missing = refused BadWords (codes "no body")
body_said Long = refused InputFailed (codes "the input is over 16777216 bytes")
body_said Failed = refused InputFailed (codes "the input failed")
body_said NoMemory = unsaid

-- what is said where this is taken for a body and none is given: none is left, its line or the input is too long, or it failed
abbrev pub SaysNoBody : Option Intake → Input → Said → Type 0
SaysNoBody (Some intake) input said =
    (IsMissing intake input × (said ≡ body_said Missing))
    ⊎ ((IsTooLong intake input × (said ≡ body_said Long))
    ⊎ (Rose input.old_faults input.new_faults × IsCutOff intake input × (said ≡ body_said Failed)))
SaysNoBody None input said = ⊥

-- what is said where no body is given to a command that takes one
abbrev pub SaysOfInput : Command → Input → Said → Type 0
SaysOfInput command input said = SaysNoBody (takes command) input said

-- what is said of a command in a state: that of its plan for the body that it is given, or why none is given
abbrev pub SaysOfRequest : Command → Input → Ring → State → Events → Said → Type 0
SaysOfRequest command input ring state events said =
    SaysOfInput command input said ⊎ ((body : Option Text) × IsGiven command input body × (said ≡ said_of (subject_of command) (plan_of ring command body state events).outcome))
