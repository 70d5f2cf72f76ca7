-- Tables of words.
use Rattle.std.specs.Prelude.{List, [], ◌∷◌, Option, None, Some, bytes_eq, if◌then◌else◌}
use Rattle.gopass_base.specs.Text.{Text}

-- what a word stands for
pub record Meant (X : Type 0) : Type 0 where
  pub word : Text
  pub meaning : X

-- the meaning of a word
abbrev pub meaning_of : {X : Type 0} → List (Meant X) → Text → Option X
meaning_of [] word = None
meaning_of (row ∷ rows) word = if bytes_eq row.word word then Some row.meaning else meaning_of rows word
