-- The calls of a form in memory.
use Rattle.std.specs.Prelude.{◌==◌, ℕ, List, if◌then◌else◌, Bool}
use Rattle.std.specs.List.{list_any}
use Rattle.gopass_base.specs.Faults.{counted}

-- the numbers of the calls that fail, how many were made, and how many failed
pub record Calls : Type 0 where
  pub failing : List ℕ
  pub made : ℕ
  pub faults : ℕ

abbrev pub no_calls : List ℕ → Calls
no_calls failing = record { failing = failing; made = 0; faults = 0 }

-- whether the next call fails: its number is one of the given
abbrev pub is_failing : Calls → Bool
is_failing calls = list_any (λ n. n == calls.made) calls.failing

-- one call more
abbrev pub next_calls : Calls → Calls
next_calls calls = record calls {
  made = counted calls.made;
  faults = if is_failing calls then counted calls.faults else calls.faults;
}
