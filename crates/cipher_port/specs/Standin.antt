-- What a text of the stand-in is the text of.
use Rattle.std.specs.Prelude.{ℕ, ◌==◌, Bool, false, ◌&&◌, ◌||◌, nat_le, nat_lt, List, [], ◌∷◌, ◌++◌, length, take, drop, codes, bytes_eq, if◌then◌else◌, Option, None, Some, option_map}
use Rattle.std.specs.Option.{option_and_then}
use Rattle.std.specs.List.{list_all}
use Rattle.std.specs.Result.{result_ok}
use Rattle.std.specs.Ordering.{nat_cmp, is_lt}
use Rattle.std.specs.Cmp.Lexicographic.{slice_cmp}
use Rattle.hex.specs.Hex.{decode_of}
use Rattle.gopass_base.specs.Text.{Text}
use Rattle.gopass_base.specs.Lines.{pieces_of}
use Rattle.recipient_files.specs.Ids.{Ids, most_ids}
use Rattle.recipient_files.specs.IdText.{id_at}
use Rattle.cipher_port.specs.Limits.{most_digits}
use Rattle.cipher_port.specs.Tool.{Content, made_of}

-- ---- an id behind others

-- whether an id is below a text, by bytes
abbrev pub is_below : Text → Text → Bool
is_below text id = is_lt (slice_cmp nat_cmp id text)

-- whether a text has its place behind the ids: they are not at their limit, and each is below it
abbrev pub has_place : Ids → Text → Bool
has_place ids text = nat_lt (length ids) most_ids && list_all (is_below text) ids

-- the ids with one more, if the text is an id that has its place there
unfoldable pub with_next : Ids → Text → Option Ids
with_next ids text = if has_place ids text then option_map (λ id. ids ++ id ∷ []) (id_at text) else None

-- ---- the lines

-- whether a line begins with a word
abbrev pub begins_with : Text → Text → Bool
begins_with word line = bytes_eq (take (length word) line) word

-- whether the lines are `end` and nothing more
abbrev pub is_end : List Text → Bool
is_end [] = false
is_end (line ∷ []) = false
is_end (line ∷ rest ∷ []) = bytes_eq line (codes "end") && bytes_eq rest []
is_end (line ∷ rest ∷ next ∷ more) = false

-- the digits of the line of a body, if the end follows it
unfoldable pub digits_at : Text → List Text → Option Text
digits_at line after = if is_end after && begins_with (codes "body ") line then Some (drop 5 line) else None

-- a decimal digit, or `a` to `f`
abbrev pub is_lower_digit : ℕ → Bool
is_lower_digit b = (nat_le 48 b && nat_le b 57) || (nat_le 97 b && nat_le b 102)

-- whether digits are in lower case, and two at most for each byte that a body may have
abbrev pub are_body_digits : Text → Bool
are_body_digits digits = nat_le (length digits) most_digits && list_all is_lower_digit digits

-- the body that digits stand for
unfoldable pub body_of : Text → Option Text
body_of digits = if are_body_digits digits then result_ok (decode_of digits) else None

-- what the line of a body behind some ids, and the lines after it, are the text of
unfoldable pub from_body : Ids → Text → List Text → Option Content
from_body ids line after =
    if length ids == 0 then None
    else option_map (made_of ids) (option_and_then body_of (digits_at line after))

-- what the lines behind the ids read so far are the text of: lines of recipients, and then that of the body
abbrev pub from_recipients : Ids → List Text → Option Content
from_recipients ids [] = None
from_recipients ids (line ∷ after) =
    if begins_with (codes "to ") line then option_and_then (λ more. from_recipients more after) (with_next ids (drop 3 line))
    else from_body ids line after

-- what lines are the text of, from the header on
abbrev pub from_header : List Text → Option Content
from_header [] = None
from_header (line ∷ after) = if bytes_eq line (codes "gopass-standin 1") then from_recipients [] after else None

-- the recipients and the body that a text is the text of
unfoldable pub standin_content : Text → Option Content
standin_content text = from_header (pieces_of text)
