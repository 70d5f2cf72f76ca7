-- The steps of a plan, and what a stop leaves of them.
use Rattle.std.specs.Prelude.{ℕ, ◌+◌, ◌≤◌, List, [], ◌∷◌, ◌++◌, length, take, Option, None, Some}
use Rattle.std.specs.Option.{option_to_list}
use Rattle.store_core.specs.declared.refusal.Refusal.TheVariants.{Disk, NoMemory}
use Rattle.store_core.specs.Events.{Cause, TheDisk, Memory, Stop}
use Rattle.store_core.specs.Plans.{Outcome, Refused, Plan, Step, Told}

-- the states that steps commit
abbrev pub states_of : {S : Type 0} → List (Step S) → List S
states_of [] = []
states_of (step ∷ steps) = option_to_list step.state ++ states_of steps

-- the secrets of which they tell
abbrev pub told_of : {S : Type 0} → List (Step S) → Told
told_of [] = []
told_of (step ∷ steps) = step.told ++ told_of steps

-- a stop leaves the steps of which all was known by then
abbrev pub cut_off : {S : Type 0} → Option Stop → List (Step S) → List (Step S)
cut_off None steps = steps
cut_off (Some stop) steps = take stop.steps steps

-- of how many steps all was known, and how many commits were answered
abbrev pub known : {S : Type 0} → Option Stop → List (Step S) → ℕ
known None steps = length steps
known (Some stop) steps = stop.steps

abbrev pub answered : {S : Type 0} → Option Stop → List (Step S) → ℕ
answered None steps = length (states_of steps)
answered (Some stop) steps = stop.commits

-- there are as many steps, and of their commits every one but the last was answered
pub record IsStopIn {S : Type 0} (stop : Option Stop) (steps : List (Step S)) : Type 0 where
  pub within : known stop steps ≤ length steps
  pub one_open : length (states_of (cut_off stop steps)) ≤ answered stop steps + 1

-- the states that a plan passes through, up to a stop
abbrev pub states_up_to : {S : Type 0} → Option Stop → Plan S → List S
states_up_to stop plan = states_of (cut_off stop plan.steps)

-- what a command answers: its outcome, and before it the secrets that stay
pub record Answer : Type 0 where
  pub outcome : Outcome
  pub told : Told

-- an answer that tells of no secret
abbrev pub just : Outcome → Answer
just outcome = record { outcome = outcome; told = [] }

-- what a turn that stopped comes to
abbrev pub stop_outcome : Cause → Outcome
stop_outcome TheDisk = Refused Disk
stop_outcome Memory = Refused NoMemory

-- after a fault of the disk all is told that was known; after want of memory nothing is
abbrev pub told_after : Cause → Told → Told
told_after TheDisk told = told
told_after Memory told = []

-- what is answered of a plan, up to a stop
abbrev pub answer_up_to : {S : Type 0} → Option Stop → Plan S → Answer
answer_up_to None plan = record { outcome = plan.outcome; told = told_of plan.steps }
answer_up_to (Some stop) plan = record { outcome = stop_outcome stop.cause; told = told_after stop.cause (told_of (cut_off (Some stop) plan.steps)) }
