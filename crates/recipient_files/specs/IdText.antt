-- Whether a text is an id, as tests tell it.
use Rattle.std.specs.Prelude.{ℕ, ◌-◌, ◌==◌, Bool, not, ◌&&◌, nat_le, length, slice_index, Option, None, Some, if◌then◌else◌}
use Rattle.std.specs.Str.{is_utf8}
use Rattle.std.specs.List.{list_all}
use Rattle.gopass_base.specs.Text.{Text}

-- neither a control byte, nor DEL, nor `#`
abbrev pub is_id_byte : ℕ → Bool
is_id_byte b = nat_le 32 b && (not (b == 127) && not (b == 35))

-- no space, no `-` and no `@`
abbrev pub is_first_byte : ℕ → Bool
is_first_byte b = not (b == 32) && (not (b == 45) && not (b == 64))

-- whether a text is an id
unfoldable pub is_id : Text → Bool
is_id text =
    nat_le 1 (length text) && (nat_le (length text) 200 && (is_utf8 text && (list_all is_id_byte text
    && (is_first_byte (slice_index text 0) && not (slice_index text (length text - 1) == 32)))))

-- the text, if it is an id
unfoldable pub id_at : Text → Option Text
id_at text = if is_id text then Some text else None
