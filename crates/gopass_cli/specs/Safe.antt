-- The crash promise of a run.
use Rattle.std.specs.Prelude.{◌≡◌, ◌≢◌, ◌⊎◌, ◌++◌, ℕ, List, [], ◌∷◌, Contains, Option, map}
use Rattle.gopass_base.specs.Text.{Text}
use Rattle.disk_model.specs.Files.{Files}
use Rattle.disk_model.specs.Disk.{View}
use Rattle.disk_model.specs.Runs.{Leaves}
use Rattle.pending_journal.specs.Redo.{IsAtRest, RecoversTo}
use Rattle.pending_journal.specs.Recovery.{IsOldOrAlike}
use Rattle.cipher_port.specs.Tool.{Opens, Ring}
use Rattle.command_words.specs.declared.command.Command.{Command}
use Rattle.store_state.specs.State.{State, StandsFor}
use Rattle.store_state.specs.Opening.{IsFound}
use Rattle.store_state.specs.declared.opening.Found.{Found}
use Rattle.store_core.specs.Steps.{IsStopIn, answer_up_to, answered, states_up_to}
use Rattle.store_core.specs.Elsewhere.{IsSameElsewhere}
use Rattle.store_core.specs.Events.{Events, Stop}
use Rattle.store_core.specs.Moment.{Faults}
use Rattle.store_core.specs.Performs.{IsTied, LeftFor, IsReached}
use Rattle.request_body.specs.Bodies.{Input}
use Rattle.gopass_cli.specs.Asks.{GiveCommand}
use Rattle.gopass_cli.specs.Actions.{subject_of}
use Rattle.gopass_cli.specs.Plan.{plan_of}
use Rattle.gopass_cli.specs.declared.status.Status.TheVariants.{BadWords, DiskFailed, NoMemory, InputFailed, SinkFailed}
use Rattle.gopass_cli.specs.Statuses.{code}
use Rattle.gopass_cli.specs.Said.{said_of}
use Rattle.request_body.specs.Given.{IsGiven}

-- what a crash left stands for one of these states
abbrev pub IsOneOf : Opens → Text → List State → Files → Type 0
IsOneOf opens root states m = (state : State) × Contains states state × LeftFor (StandsFor opens root) root state m

-- what a crash now may leave stands for one of them
abbrev pub StandsForOne : Opens → Text → List State → View → Type 0
StandsForOne opens root states disk = (m : Files) → disk.images m → IsOneOf opens root states m

-- the statuses of a run that began no command on files that stand for a state: bad words or no body, a fault of the disk, of the
-- input or of a sink, and want of memory
abbrev pub BeginsNone : ℕ → Type 0
BeginsNone status = Contains (map code (BadWords ∷ DiskFailed ∷ NoMemory ∷ InputFailed ∷ SinkFailed ∷ [])) status

-- the run began no command, as its status says: what a crash leaves at any moment stands for one of the states before, and is
-- an image of the disk or stands for the same files, byte for byte
pub record BeganNone (opens : Opens) (root : Text) (before : List State) (old new : View) (status : ℕ) : Type 0 where
  pub tells : BeginsNone status
  pub any_moment : Leaves (IsOneOf opens root before) old new
  pub kept : Leaves (IsOldOrAlike root old) old new

-- an image of the disk, or files by which each of these but those at the paths is as it was, byte for byte
abbrev pub IsOldOrElsewhere : Text → List Text → View → Files → Files → Type 0
IsOldOrElsewhere root paths disk files m = disk.images m ⊎ IsSameElsewhere root paths files m

-- each of these files but those at the paths is as it was, byte for byte: at the end in whatever a crash may leave, and at any
-- moment in each but an image from before
pub record KeepsOthers (root : Text) (paths : List Text) (files : Files) (old new : View) : Type 0 where
  pub any_moment : Leaves (IsOldOrElsewhere root paths old files) old new
  pub at_end : (m : Files) → new.images m → IsSameElsewhere root paths files m

-- the run opened the store in one of the states before, for which the files on the disk stood, and went through the states
-- of the command's plan, up to a stop: for the body that was given, and for some events, tied to what happened. Its status is
-- that of the plan so cut off, or that of a sink. What a crash leaves at any moment stands for one of the states before or of those
-- passed; at the end, for the last one reached or for the next. Each file that the plan may not change is as it was. Where the
-- status tells no fault of the disk or of a sink and no want of memory, the files are the only image at the end, and none of the vault's own is there
pub record Went (opens : Opens) (root : Text) (ring : Ring) (command : Command) (input : Input) (before : List State) (old new : View) (faults now_faults : Faults) (status : ℕ) : Type 0 where
  pub start : State
  pub from : Contains before start
  pub found : LeftFor (StandsFor opens root) root start old.files
  pub body : Option Text
  pub given : IsGiven command input body
  pub events : Events
  pub stop : Option Stop
  pub tied : IsTied faults now_faults events stop
  pub stops : IsStopIn stop (plan_of ring command body start events).steps
  pub says : status ≢ code SinkFailed → status ≡ (said_of (subject_of command) (answer_up_to stop (plan_of ring command body start events)).outcome).status
  pub any_moment : Leaves (IsOneOf opens root (before ++ states_up_to stop (plan_of ring command body start events))) old new
  pub at_end : (m : Files) → new.images m → IsReached (StandsFor opens root) root start (states_up_to stop (plan_of ring command body start events)) (answered stop (plan_of ring command body start events).steps) m
  pub others : KeepsOthers root (plan_of ring command body start events).changes found.0 old new
  pub at_rest : status ≢ code DiskFailed → status ≢ code NoMemory → status ≢ code SinkFailed → IsAtRest root new

-- the run left each file as it was, or the files for which those on the disk stood are those of a store that opens
abbrev pub KeptOrOpens : Text → (old new : View) → Type 0
KeptOrOpens root old new = Leaves (IsOldOrAlike root old) old new ⊎ ((after : Files) × RecoversTo root old.files after × (found : Found) × IsFound root after found)

-- a run goes so, or begins no command
abbrev pub IsSafe : Opens → Text → Ring → Command → Input → List State → (old new : View) → (faults now_faults : Faults) → ℕ → Type 0
IsSafe opens root ring command input before old new faults now_faults status =
    BeganNone opens root before old new status ⊎ Went opens root ring command input before old new faults now_faults status

-- and so does the run for these words, which give the command
abbrev pub IsSafeRun : Opens → Text → Ring → List Text → Input → List State → (old new : View) → (faults now_faults : Faults) → ℕ → Type 0
IsSafeRun opens root ring words input before old new faults now_faults status =
    BeganNone opens root before old new status
    ⊎ ((command : Command) × GiveCommand words command × Went opens root ring command input before old new faults now_faults status)
