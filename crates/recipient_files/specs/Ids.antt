-- Ids of recipients, and sets of them.
use Rattle.std.specs.Prelude.{◌≢◌, ℕ, ◌-◌, ◌≤◌, not, bytes_eq, filter, List, length, slice_index, All}
use Rattle.std.specs.Str.{IsUtf8}
use Rattle.gopass_base.specs.Text.{Text, IsPrintable}
use Rattle.gopass_base.specs.Order.{IsRising}

-- no space, and not the first byte of an option (`-`) or of a group (`@`)
abbrev pub CanBegin : ℕ → Type 0
CanBegin b = (b ≢ 32) × (b ≢ 45) × (b ≢ 64)

-- an id: 1 to 200 printable bytes of UTF-8 without `#`, no space at either end, and no `-` or `@` in front
pub record IsId (text : Text) : Type 0 where
  pub some : 1 ≤ length text
  pub short : length text ≤ 200
  pub utf8 : IsUtf8 text
  pub printable : All IsPrintable text
  pub no_hash : All (λ b. b ≢ 35) text
  pub begins : CanBegin (slice_index text 0)
  pub ends : slice_index text (length text - 1) ≢ 32

abbrev pub Ids : Type 0
Ids = List Text

-- the ids without this one
abbrev pub without : Ids → Text → Ids
without ids id = filter (λ one. not (bytes_eq one id)) ids

-- so many ids a set has at most
abbrev pub most_ids : ℕ
most_ids = 64

-- a set of recipients: one id or more in rising order
pub record IsRecipients (ids : Ids) : Type 0 where
  pub some : 1 ≤ length ids
  pub few : length ids ≤ most_ids
  pub each : All IsId ids
  pub rising : IsRising ids
