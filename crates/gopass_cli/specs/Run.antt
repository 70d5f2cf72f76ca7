-- A run of the program.
use Rattle.std.specs.Prelude.{◌≡◌, ℕ, List, Option, None, Some, Result, Ok, Err, sum_by}
use Rattle.gopass_base.specs.Text.{Text}
use Rattle.disk_model.specs.Files.{Files}
use Rattle.disk_model.specs.Disk.{DiskMeaning}
use Rattle.cipher_port.specs.Tool.{Opens, Ring, ToolMeaning}
use Rattle.command_words.specs.Invocations.{Invocation, invocation_of}
use Rattle.command_words.specs.Words.{words_in}
use Rattle.command_words.specs.declared.command.Command.{Command}
use Rattle.gopass_cli.specs.declared.status.Status.TheVariants.{BadWords}
use Rattle.gopass_cli.specs.Said.{Said, refused, stop_said}
use Rattle.gopass_cli.specs.Texts.{bad_words}
use Rattle.store_core.specs.Events.{Events, Stop}
use Rattle.store_core.specs.Moment.{Faults, HaveRing}
use Rattle.store_core.specs.Performs.{IsTied}
use Rattle.request_body.specs.Bodies.{Input}
use Rattle.request_body.specs.Given.{IsLeft}
use Rattle.gopass_cli.specs.Opening.{SaysOfCommand}

-- what is said of the command that the words give, or of the first word that is bad
abbrev pub SaysOfWords : Result Invocation ℕ → Opens → Text → Files → Input → Ring → Events → Said → Type 0
SaysOfWords (Err at) opens root files input ring events said = (said ≡ refused BadWords (bad_words at)) × IsLeft input
SaysOfWords (Ok invocation) opens root files input ring events said = (command : Command) × (invocation ≡ invocation_of command) × SaysOfCommand opens root files input ring command events said

-- what a run says for these words on these files, in the order: words, opening, the body, and the plan of the command
abbrev pub RunSays : List Text → Opens → Text → Files → Input → Ring → Events → Said → Type 0
RunSays words opens root files input ring events said = SaysOfWords (words_in words) opens root files input ring events said

-- what is said, or that the run stopped
abbrev pub UpTo : Option Stop → Type 0 → Said → Type 0
UpTo None Says said = Says
UpTo (Some stop) Says said = said ≡ stop_said stop.cause

-- this is said for some events, tied to what happened, up to a stop
pub record SaidInRun (Says : Events → Said → Type 0) (old new : Faults) (said : Said) : Type 0 where
  pub events : Events
  pub stop : Option Stop
  pub tied : IsTied old new events stop
  pub says : UpTo stop (Says events said) said

abbrev pub faults_of : {D C : Type 0} → DiskMeaning D → D → ToolMeaning C → List C → Faults
faults_of disk_meaning disk meaning tools = record { disk = disk_meaning.faults disk; tools = sum_by meaning.faults tools }

-- where disk and tools tell: this is said, of the ring of the tools, for some events and up to a stop
abbrev pub SaidWhereTold : {D C : Type 0} → DiskMeaning D → ToolMeaning C → (disk disk' : D) → (tools tools' : List C) → (Ring → Events → Said → Type 0) → Said → Type 0
SaidWhereTold disk_meaning meaning disk disk' tools tools' Says said =
    disk_meaning.tells → meaning.tells → (ring : Ring) → HaveRing meaning tools ring
    → SaidInRun (Says ring) (faults_of disk_meaning disk meaning tools) (faults_of disk_meaning disk' meaning tools') said
