-- What a sink in memory keeps.
use Rattle.std.specs.Prelude.{ℕ, ◌+◌, Bool, false, ◌||◌, nat_lt, [], ◌++◌, length, take, Option, None, Some, if◌then◌else◌}
use Rattle.gopass_base.specs.Text.{Text}
use Rattle.gopass_base.specs.Calls.{Calls}

-- the first `room` bytes of all that was put, and whether there were more
pub record Kept : Type 0 where
  pub room : ℕ
  pub bytes : Text
  pub is_over : Bool

-- with these bytes behind
abbrev pub kept_with : Kept → Text → Kept
kept_with kept bytes = record kept {
  bytes = take kept.room (kept.bytes ++ bytes);
  is_over = kept.is_over || nat_lt kept.room (length kept.bytes + length bytes);
}

-- all that was put, told until a byte was dropped
abbrev pub held_of : Kept → Option Text
held_of kept = if kept.is_over then None else Some kept.bytes

-- a sink in memory whose calls may fail
pub record FailingSink : Type 0 where
  pub kept : Kept
  pub calls : Calls

-- nothing was put yet
abbrev pub empty_kept : ℕ → Kept
empty_kept room = record { room = room; bytes = []; is_over = false }
