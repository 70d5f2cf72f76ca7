-- What the text of a rule file names.
use Rattle.std.specs.Prelude.{◌≡◌, ◌==◌, ℕ, ◌+◌, not, List, [], ◌∷◌, ◌++◌, length, codes, Option, Some, None, option_map, if◌then◌else◌}
use Rattle.std.specs.Option.{option_or}
use Rattle.std.specs.List.{flat_map}
use Rattle.std.specs.Str.{is_utf8}
use Rattle.gopass_base.specs.Text.{Text, is_among}
use Rattle.gopass_base.specs.Lines.{before_byte, pieces_of}
use Rattle.gopass_base.specs.Order.{IsSetOf}
use Rattle.recipient_files.specs.Ids.{Ids, most_ids}
use Rattle.recipient_files.specs.IdText.{is_id}
use Rattle.recipient_files.specs.declared.rule.RuleKind.{RuleKind}
use Rattle.recipient_files.specs.declared.rule.RuleKind.TheVariants.{NotText, BadId, TooMany, None as NoId}

-- ---- what is left of a line

-- without the spaces in front
abbrev pub trim_start : Text → Text
trim_start [] = []
trim_start (b ∷ bs) = if b == 32 then trim_start bs else b ∷ bs

-- a byte before what is left behind it: a space goes where nothing is left
abbrev pub unless_space : ℕ → Text → Text
unless_space b [] = if b == 32 then [] else b ∷ []
unless_space b (c ∷ bs) = b ∷ c ∷ bs

-- without the spaces behind
abbrev pub trim_end : Text → Text
trim_end [] = []
trim_end (b ∷ bs) = unless_space b (trim_end bs)

-- a line without its comment, which begins at `#`, and then without the spaces at its ends
abbrev pub left_of : Text → Text
left_of line = trim_end (trim_start (before_byte 35 line))

-- ---- a line behind the ids of the lines before it

-- what is wrong with a text as an id
abbrev pub text_fault : Text → Option RuleKind
text_fault text = if not (is_utf8 text) then Some NotText else if is_id text then None else Some BadId

-- what is wrong with one more id: it is new, and the 65th
abbrev pub room_fault : Ids → Text → Option RuleKind
room_fault ids id = if is_among ids id then None else if length ids == most_ids then Some TooMany else None

-- what is wrong with what is left of a line; nothing is where nothing is left
abbrev pub line_fault : Ids → Text → Option RuleKind
line_fault ids left = if length left == 0 then None else option_or (text_fault left) (room_fault ids left)

-- the ids, and one more where it is new
abbrev pub with_id : Ids → Text → Ids
with_id ids id = if is_among ids id then ids else ids ++ id ∷ []

-- the ids, with that of a line, where something is left of it
abbrev pub with_line : Ids → Text → Ids
with_line ids left = if length left == 0 then ids else with_id ids left

-- ---- the lines

pub record BadLine : Type 0 where
  pub line : ℕ
  pub kind : RuleKind

abbrev pub bad_at : ℕ → RuleKind → BadLine
bad_at line kind = record { line = line; kind = kind }

-- the ids of lines behind these ids, each where it first stands
abbrev pub ids_from : Ids → List Text → Ids
ids_from ids [] = ids
ids_from ids (line ∷ lines) = ids_from (with_line ids (left_of line)) lines

-- the first bad one of lines behind these ids; the first of them has this number
abbrev pub bad_from : ℕ → Ids → List Text → Option BadLine
bad_from number ids [] = None
bad_from number ids (line ∷ lines) =
    option_or (option_map (bad_at number) (line_fault ids (left_of line))) (bad_from (number + 1) (with_line ids (left_of line)) lines)

-- the ids that a text names, each where it first stands
unfoldable pub ids_of : Text → Ids
ids_of text = ids_from [] (pieces_of text)

-- the first bad line of a text, counted from 1; where there is none and no id, line 0 is
unfoldable pub first_bad_line : Text → Option BadLine
first_bad_line text =
    option_or (bad_from 1 [] (pieces_of text)) (if length (ids_of text) == 0 then Some (bad_at 0 NoId) else None)

-- no line of the text is bad, and the set is that of its ids
pub record IsRule (set : Ids) (text : Text) : Type 0 where
  pub good : first_bad_line text ≡ None
  pub set_of : IsSetOf set (ids_of text)

-- the text that is written for a set: a line for each id
abbrev pub rule_text : Ids → Text
rule_text set = flat_map (λ id. id ++ codes "\n") set
