-- The parts of a text, with a slash between them.
use Rattle.std.specs.Prelude.{◌≡◌, ◌==◌, List, slice_index, codes, nat_eq, IsTrue}
use Rattle.std.specs.List.{slice_split, ends_with}
use Rattle.gopass_base.specs.Text.{Text}

-- the parts between the slashes
abbrev pub parts : Text → List Text
parts text = slice_split (λ b. b == 47) text

-- it begins with a dot
abbrev pub IsHidden : Text → Type 0
IsHidden part = slice_index part 0 ≡ 46

-- it ends as the file of a secret does
abbrev pub IsSealedName : Text → Type 0
IsSealedName part = IsTrue (ends_with nat_eq part (codes ".gpg"))
