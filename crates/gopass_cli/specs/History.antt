-- Runs after one another: each on the disk that the last one handed back, or on what a crash of it left.
use Rattle.std.specs.Prelude.{◌++◌, ℕ, zero, suc, List, [], ◌∷◌}
use Rattle.std.proofs.Common.{inl, inr}
use Rattle.gopass_base.specs.Text.{Text}
use Rattle.disk_model.specs.Files.{Files}
use Rattle.disk_model.specs.Disk.{View, DiskMeaning, IsDurable}
use Rattle.cipher_port.specs.Tool.{Opens, Ring}
use Rattle.store_state.specs.State.{State}
use Rattle.store_core.specs.Steps.{answered, states_up_to}
use Rattle.store_core.specs.Moment.{Faults}
use Rattle.store_core.specs.Performs.{state_at}
use Rattle.request_body.specs.Bodies.{Input}
use Rattle.gopass_cli.specs.Plan.{plan_of}
use Rattle.gopass_cli.specs.Safe.{IsSafeRun, StandsForOne}

-- what a run was given, the faults that were counted before and after it, and its status
pub record Run : Type 0 where
  pub words : List Text
  pub ring : Ring
  pub input : Input
  pub faults : Faults
  pub now_faults : Faults
  pub status : ℕ

-- the run kept the crash promise on the disk, which stood for one of the states before
abbrev pub IsKeptBy : Opens → Text → Run → List State → (old new : View) → Type 0
IsKeptBy opens root run before old new = IsSafeRun opens root run.ring run.words run.input before old new run.faults run.now_faults run.status

-- the state behind the n-th, where there is one
abbrev pub next_after : List State → ℕ → List State
next_after [] n = []
next_after (s ∷ states) zero = s ∷ []
next_after (s ∷ states) (suc n) = next_after states n

-- what may be found on the disk that the run handed back: a state from before, where it began no command; else the last that it
-- reached, or the next
abbrev pub found_after : (opens : Opens) (root : Text) (run : Run) (before : List State) (old new : View) → IsKeptBy opens root run before old new → List State
found_after opens root run before old new (inl none) = before
found_after opens root run before old new (inr (command, asked, went)) =
    let plan = plan_of run.ring command went.body went.start went.events in
    state_at went.start (states_up_to went.stop plan) (answered went.stop plan.steps) ∷ next_after (states_up_to went.stop plan) (answered went.stop plan.steps)

-- what may be found on the disk that a crash of the run left: a state from before, or one that it passed
abbrev pub found_during : (opens : Opens) (root : Text) (run : Run) (before : List State) (old new : View) → IsKeptBy opens root run before old new → List State
found_during opens root run before old new (inl none) = before
found_during opens root run before old new (inr (command, asked, went)) = before ++ states_up_to went.stop (plan_of run.ring command went.body went.start went.events)

-- the states that may be found on a disk after runs: at first those for which it stood, and then what each run made of it. A
-- disk that begins with what a crash between two runs left has the same
pub data History {D : Type 0} (disks : DiskMeaning D) (opens : Opens) (root : Text) (first : List State) : List State → D → Type 0 where
  begun : (disk : D) → StandsForOne opens root first (disks.view disk) → History disks opens root first first disk
  handed_back : (before : List State) (old new : D) (run : Run) (kept : IsKeptBy opens root run before (disks.view old) (disks.view new))
      → History disks opens root first before old → History disks opens root first (found_after opens root run before (disks.view old) (disks.view new) kept) new
  crashed : (before : List State) (old new left : D) (run : Run) (kept : IsKeptBy opens root run before (disks.view old) (disks.view new)) (files : Files)
      → History disks opens root first before old → (disks.view new).left_since (disks.view old).moment files → IsDurable files (disks.view left)
      → History disks opens root first (found_during opens root run before (disks.view old) (disks.view new) kept) left
  stopped : (before : List State) (old left : D) (files : Files)
      → History disks opens root first before old → (disks.view old).images files → IsDurable files (disks.view left) → History disks opens root first before left

-- the paths that a run may have changed: those of the plan of its command, where it began one
abbrev pub changed_by : (opens : Opens) (root : Text) (run : Run) (before : List State) (old new : View) → IsKeptBy opens root run before old new → List Text
changed_by opens root run before old new (inl none) = []
changed_by opens root run before old new (inr (command, asked, went)) = (plan_of run.ring command went.body went.start went.events).changes

-- those that the runs of a history may have changed
unfoldable pub changes_of : {D : Type 0} (disks : DiskMeaning D) (opens : Opens) (root : Text) (first states : List State) (disk : D) → History disks opens root first states disk → List Text
changes_of disks opens root first states disk (begun now stand) = []
changes_of disks opens root first states disk (handed_back before old new run kept past) = changed_by opens root run before (disks.view old) (disks.view new) kept ++ changes_of disks opens root first before old past
changes_of disks opens root first states disk (crashed before old new left run kept files past was stands) = changed_by opens root run before (disks.view old) (disks.view new) kept ++ changes_of disks opens root first before old past
changes_of disks opens root first states disk (stopped before old left files past image stands) = changes_of disks opens root first before old past

-- the disk with which it began
unfoldable pub first_disk : {D : Type 0} (disks : DiskMeaning D) (opens : Opens) (root : Text) (first states : List State) (disk : D) → History disks opens root first states disk → D
first_disk disks opens root first states disk (begun now stand) = now
first_disk disks opens root first states disk (handed_back before old new run kept past) = first_disk disks opens root first before old past
first_disk disks opens root first states disk (crashed before old new left run kept files past was stands) = first_disk disks opens root first before old past
first_disk disks opens root first states disk (stopped before old left files past image stands) = first_disk disks opens root first before old past
