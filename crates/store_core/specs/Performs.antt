-- A command does what is planned, up to a stop.
use Rattle.std.specs.Prelude.{◌≡◌, ◌⊎◌, ℕ, zero, suc, ◌+◌, ◌-◌, ◌^◌, ◌<◌, ◌≤◌, min, length, List, [], ◌∷◌, Contains, Option, Some, IsFalse}
use Rattle.gopass_base.specs.Text.{Text}
use Rattle.gopass_base.specs.Faults.{Rose}
use Rattle.disk_model.specs.Files.{Files}
use Rattle.disk_model.specs.Disk.{Rests}
use Rattle.disk_model.specs.Runs.{Leaves}
use Rattle.pending_journal.specs.Redo.{RecoversTo}
use Rattle.store_core.specs.Plans.{Plan, Failed}
use Rattle.store_core.specs.Steps.{Answer, IsStopIn, answer_up_to, answered, cut_off, states_up_to, told_of}
use Rattle.store_core.specs.Events.{Events, failed_names, TheDisk, Stop}
use Rattle.store_core.specs.Moment.{Faults, Moment}
use Rattle.store_core.specs.Elsewhere.{IsSameElsewhere}

-- a count that stands at its last value rose by n, and by no more
pub record Counted (before n now : ℕ) : Type 0 where
  pub least : min (before + n) (2 ^ 64 - 1) ≤ now
  pub most : now ≤ before + n

-- a count that stands at its last value rose by n at least
abbrev pub RoseBy : (before n now : ℕ) → Type 0
RoseBy before n now = min (before + n) (2 ^ 64 - 1) ≤ now

-- the events and a stop are tied to what happened: a tool failed for each name, and the disk for its stop
pub record IsTied (old new : Faults) (events : Events) (stop : Option Stop) : Type 0 where
  pub tools : RoseBy old.tools (length (failed_names events)) new.tools
  pub disk : (s : Stop) → stop ≡ Some s → s.cause ≡ TheDisk → Rose old.disk new.disk

-- the n-th state passed, from 0 for the start; the last one beyond the end
abbrev pub state_at : {S : Type 0} → S → List S → ℕ → S
state_at start states zero = start
state_at start [] (suc n) = start
state_at start (s ∷ states) (suc n) = state_at s states n

-- Below, files stand for a state where `Stands` says so.

-- files that a crash left stand for the state: the files that they recover to do
abbrev pub LeftFor : {S : Type 0} → (Stands : Files → S → Type 0) (root : Text) → S → Files → Type 0
LeftFor Stands root state m = (after : Files) × RecoversTo root m after × Stands after state

-- for one of the states passed, from the start on
abbrev pub IsPassed : {S : Type 0} → (Stands : Files → S → Type 0) (root : Text) → S → List S → Files → Type 0
IsPassed Stands root start states m = (n : ℕ) × (n ≤ length states) × LeftFor Stands root (state_at start states n) m

-- for the n-th state, or for the next
abbrev pub IsReached : {S : Type 0} → (Stands : Files → S → Type 0) (root : Text) → S → List S → ℕ → Files → Type 0
IsReached Stands root start states n m = LeftFor Stands root (state_at start states n) m ⊎ ((n < length states) × LeftFor Stands root (state_at start states (n + 1)) m)

-- the store goes through these states, and n commits are answered: the files are those of the n-th state. What a crash leaves
-- at any moment stands for a state passed, and at the end for the n-th or the next. Without a commit nothing changes
pub record Goes {S : Type 0} (Stands : Files → S → Type 0) (root : Text) (start : S) (states : List S) (n : ℕ) (old new : Moment) : Type 0 where
  pub within : n ≤ length states
  pub counted : Counted old.commits n new.commits
  pub state : IsFalse new.stuck → Stands new.view.files (state_at start states n)
  pub any_moment : Leaves (IsPassed Stands root start states) old.view new.view
  pub at_end : (m : Files) → new.view.images m → IsReached Stands root start states n m
  pub still : n ≡ 0 → IsFalse new.stuck → Rests old.view new.view

-- it goes through the states of these steps, up to a stop
pub record Walks {S : Type 0} (Stands : Files → S → Type 0) (root : Text) (start : S) (plan : Plan S) (stop : Option Stop) (old new : Moment) : Type 0 where
  pub stops : IsStopIn stop plan.steps
  pub goes : Goes Stands root start (states_up_to stop plan) (answered stop plan.steps) old new

-- each file but those at the paths is as it was, byte for byte: at any moment by what a crash may leave, and on the disk where no
-- commit failed
pub record KeepsElsewhere (root : Text) (paths : List Text) (old new : Moment) : Type 0 where
  pub images : Leaves (IsSameElsewhere root paths old.view.files) old.view new.view
  pub files : IsFalse new.stuck → (other : Text) → ¬ Contains paths other → new.view.files other ≡ old.view.files other

-- the command does what is planned for some events, tied to what happened, up to a stop. Each secret whose tool failed in a
-- command that goes on is told of, and each file that the plan may not change is as it was
pub record Performs {S : Type 0} (Stands : Files → S → Type 0) (root : Text) (plan : Events → Plan S) (start : S) (old new : Moment) (answer : Answer) : Type 0 where
  pub events : Events
  pub stop : Option Stop
  pub tied : IsTied old.faults new.faults events stop
  pub is : answer ≡ answer_up_to stop (plan events)
  pub tells : (name : Text) → Contains events.failed name → Contains (told_of (cut_off stop (plan events).steps)) (name, Failed)
  pub walks : Walks Stands root start (plan events) stop old new
  pub calls : new.calls ≤ old.calls + (plan events).calls
  pub elsewhere : KeepsElsewhere root (plan events).changes old new
