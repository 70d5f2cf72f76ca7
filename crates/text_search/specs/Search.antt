-- Where a text stands in bytes, and the names in which it does.
use Rattle.std.specs.Prelude.{Bool, ◌||◌, ◌==◌, nat_eq, List, [], ◌∷◌, length, filter}
use Rattle.std.specs.List.{starts_with}
use Rattle.gopass_base.specs.Text.{Text}

-- the text stands somewhere in the bytes
abbrev pub has_text : Text → Text → Bool
has_text text [] = length text == 0
has_text text (b ∷ bytes) = starts_with nat_eq (b ∷ bytes) text || has_text text bytes

-- the names in which the text stands, in their order
abbrev pub names_with : Text → List Text → List Text
names_with text names = filter (λ name. has_text text name) names
