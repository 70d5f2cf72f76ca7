-- When a fault of the outside may be answered: by the count of faults of what was asked.
use Rattle.std.specs.Prelude.{◌≡◌, ℕ, ◌+◌, ◌-◌, ◌^◌, ◌≤◌, min}

-- a count that goes up by one, and stands at its last value
abbrev pub counted : ℕ → ℕ
counted n = min (n + 1) (2 ^ 64 - 1)

-- the count went up, or stands at its last value
abbrev pub Rose : ℕ → ℕ → Type 0
Rose before now = counted before ≤ now

-- the call failed only where the count rose, and then by one; where it did not fail the count stays. So no fault is passed
-- over, and no two calls of the outside fail in one
pub record HasCause (before now : ℕ) (Failed : Type 0) : Type 0 where
  pub later : before ≤ now
  pub failed : Failed → Rose before now
  pub stays : ¬ Failed → now ≡ before
  pub once : now ≤ before + 1

-- what was asked in calls: n of them where it was done, and no more else. A count stands at its last value
pub record Costs (n before now : ℕ) (Done : Type 0) : Type 0 where
  pub later : before ≤ now
  pub most : now ≤ before + n
  pub all : Done → min (before + n) (2 ^ 64 - 1) ≤ now
