-- What a sink means: the bytes that it took, and how often a call failed.
use Rattle.std.specs.Prelude.{ℕ, ◌≡◌, ◌<◌, ◌++◌, length, take, Option, Result, Ok, Err}
use Rattle.gopass_base.specs.Text.{Text}
use Rattle.io_ports.specs.Told.{Told}

-- `held` is all that the sink took, where it tells that
pub record SinkMeaning (O : Type 0) : Type 0 where
  pub held : O → Option Text
  pub faults : O → ℕ

-- the sink took these bytes behind those before
abbrev pub Took : Option Text → Option Text → Text → Type 0
Took before after bytes = Told (λ was is. is ≡ was ++ bytes) before after

-- the sink took the first n of these bytes, for some n, and not all of them
abbrev pub TookPart : Option Text → Option Text → Text → Type 0
TookPart before after bytes = (n : ℕ) × (n < length bytes) × Took before after (take n bytes)

-- what `put` did: it took the first n bytes at Ok(n), and nothing at a fault
abbrev pub Puts : {E : Type 0} → Option Text → Option Text → Result ℕ E → Text → Type 0
Puts before after (Ok n) bytes = Took before after (take n bytes)
Puts before after (Err e) bytes = after ≡ before
