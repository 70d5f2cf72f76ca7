-- What a source means: the bytes that it has left, and its counts.
use Rattle.std.specs.Prelude.{ℕ, ◌+◌, ◌-◌, ◌^◌, ◌≤◌, ◌≡◌, ◌↔◌, ◌++◌, ◌∷◌, [], min, length, take, drop, ◌==◌, Option, None, Some, Result, Ok, Err, if◌then◌else◌}
use Rattle.gopass_base.specs.Text.{Text}
use Rattle.gopass_base.specs.Faults.{counted}
use Rattle.gopass_base.specs.Calls.{Calls}
pub use Rattle.io_ports.specs.Told.{Told}

-- `left` is all that is still to come, where the source tells that. Told or not it counts the bytes that were taken, the
-- calls that found its end, and those that failed; each count stands at 2^64 - 1
pub record SourceMeaning (S : Type 0) : Type 0 where
  pub left : S → Option Text
  pub taken : S → ℕ
  pub ends : S → ℕ
  pub faults : S → ℕ

-- the count went up by n, or stands at its last value
pub record Grew (n before now : ℕ) : Type 0 where
  pub later : before ≤ now
  pub most : now ≤ before + n
  pub least : min (before + n) (2 ^ 64 - 1) ≤ now

-- it went up by at most so many
pub record GrewUpTo (n before now : ℕ) : Type 0 where
  pub later : before ≤ now
  pub most : now ≤ before + n

-- it went up by one where this was so, and stays where it was not
pub record GrewOnce (before now : ℕ) (Was : Type 0) : Type 0 where
  pub once : Was → now ≡ counted before
  pub stays : ¬ Was → now ≡ before

-- these bytes came, and what is left now stood behind them
abbrev pub Came : Text → Text → Text → Type 0
Came bytes before after = before ≡ bytes ++ after

-- these bytes came, and none exactly where nothing was left
pub record CameNext (bytes before after : Text) : Type 0 where
  pub came : Came bytes before after
  pub end : bytes ≡ [] ↔ before ≡ []

-- what `take` did: at Ok(n) the next bytes came, and are the first n of the buffer; nothing came at a fault
abbrev pub Takes : {E : Type 0} → Option Text → Option Text → Result ℕ E → Text → Type 0
Takes before after (Ok n) into = Told (CameNext (take n into)) before after
Takes before after (Err e) into = after ≡ before

-- how many bytes came, told or not: n at Ok(n), and none at a fault
abbrev pub TakesCount : {E : Type 0} → (before now : ℕ) → Result ℕ E → Type 0
TakesCount before now (Ok n) = Grew n before now
TakesCount before now (Err e) = now ≡ before

-- the next byte of a source, or its end; nothing came at a fault
abbrev pub NextByte : {E : Type 0} → Option Text → Option Text → Result (Option ℕ) E → Type 0
NextByte before after (Ok (Some byte)) = Told (Came (byte ∷ [])) before after
NextByte before after (Ok None) = Told (λ was is. (was ≡ []) × (is ≡ [])) before after
NextByte before after (Err e) = after ≡ before

-- and its count
abbrev pub NextCount : {E : Type 0} → (before now : ℕ) → Result (Option ℕ) E → Type 0
NextCount before now (Ok (Some byte)) = Grew 1 before now
NextCount before now (Ok None) = now ≡ before
NextCount before now (Err e) = now ≡ before

-- a source in memory: the bytes that it has left, how many were taken, and how often its end came
pub record InMemory : Type 0 where
  pub left : Text
  pub taken : ℕ
  pub ends : ℕ

-- nothing was taken yet of these bytes
abbrev pub untaken : Text → InMemory
untaken bytes = record { left = bytes; taken = 0; ends = 0 }

-- the next bytes were taken, up to so many
abbrev pub after_take : ℕ → InMemory → InMemory
after_take room source = record {
  left = drop room source.left;
  taken = source.taken + min (length source.left) room;
  ends = if length source.left == 0 then counted source.ends else source.ends;
}

-- one whose calls may fail
pub record FailingSource : Type 0 where
  pub source : InMemory
  pub calls : Calls
