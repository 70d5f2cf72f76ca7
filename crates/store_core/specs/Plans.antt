-- What a command comes to, and what it leaves.
use Rattle.std.specs.Prelude.{ℕ, List, [], ◌∷◌, Option, Some, Result, Ok, Err}
use Rattle.gopass_base.specs.Text.{Text}
use Rattle.store_core.specs.declared.refusal.Refusal.{Refusal}

-- it is done, and gives these bytes; nothing was found; a word of it names nothing, from this byte on; or it is refused
pub data Outcome : Type 0 where
  Done : Text → Outcome
  NoHit : Outcome
  Misnamed : (word : Text) (at : ℕ) → Outcome
  Refused : Refusal → Outcome

-- an answer of the library as an outcome, by the bytes of a good one
abbrev pub outcome_by : {T : Type 0} → (T → Text) → Result T Refusal → Outcome
outcome_by printed (Ok x) = Done (printed x)
outcome_by printed (Err refusal) = Refused refusal

-- what is recorded of a command, for the mount in this directory
pub record Record : Type 0 where
  pub dir : Text
  pub text : Text

-- why a secret stays as it was in a command that goes on: no key is held for it, its file is not sealed, an id is not known, no
-- rule governs it, or the tool failed
pub data Why : Type 0 where
  NoKey : Why
  NotSealed : Why
  UnknownId : Why
  NoRule : Why
  Failed : Why

-- the secrets that stay, each with why
abbrev pub Told : Type 0
Told = List (Text × Why)

-- what a command does in one go: the state that it commits, if any, and the secrets that stay, of which it tells
pub record Step (S : Type 0) : Type 0 where
  pub state : Option S
  pub told : Told

-- a command: its outcome, its steps, how often it calls a tool at most, the paths whose files it may change, and what is
-- recorded of it
pub record Plan (S : Type 0) : Type 0 where
  pub outcome : Outcome
  pub steps : List (Step S)
  pub calls : ℕ
  pub changes : List Text
  pub records : List Record

-- a command that changes nothing and calls a tool so often at most
abbrev pub answers_within : {S : Type 0} → ℕ → Outcome → Plan S
answers_within calls outcome = record { outcome = outcome; steps = []; calls = calls; changes = []; records = [] }

-- a command that changes nothing and calls no tool
abbrev pub answers : {S : Type 0} → Outcome → Plan S
answers outcome = answers_within 0 outcome

-- a command that changes nothing and calls a tool once
abbrev pub answers_by_tool : {S : Type 0} → Outcome → Plan S
answers_by_tool outcome = answers_within 1 outcome

-- a command with one commit, which prints nothing
abbrev pub commits : {S : Type 0} → S → (calls : ℕ) (changes : List Text) → Plan S
commits next calls changes = record { outcome = Done []; steps = record { state = Some next; told = [] } ∷ []; calls = calls; changes = changes; records = [] }
