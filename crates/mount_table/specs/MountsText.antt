-- The text of mounts: a line for each row.
use Rattle.std.specs.Prelude.{◌≡◌, ◌≢◌, ℕ, ◌+◌, ◌<◌, Bool, true, false, List, [], ◌∷◌, ◌++◌, length, codes}
use Rattle.gopass_base.specs.Text.{Text}
use Rattle.mount_table.specs.Mounts.{IsBefore, row_at, AreRows, most_mounts}
use Rattle.mount_table.specs.declared.mounts.Row.{Row}

abbrev pub flag_of : Bool → Text
flag_of true = codes "git"
flag_of false = codes "plain"

-- the alias, a tab, the directory, a tab, and whether git is on
abbrev pub line_of : Row → Text
line_of row = row.alias ++ 9 ∷ (row.dir ++ 9 ∷ flag_of row.git)

-- each line has a line feed behind it
abbrev pub table_text : List Row → Text
table_text [] = []
table_text (row ∷ rows) = line_of row ++ 10 ∷ table_text rows

-- the row may stand behind these: there is room, the first is that of the root, and all others stand before it
pub record CanFollow (root : Text) (rows : List Row) (row : Row) : Type 0 where
  pub room : length rows < most_mounts
  pub first : length rows ≡ 0 → (row.alias ≡ []) × (row.dir ≡ root)
  pub behind : (k : ℕ) → k < length rows → IsBefore (row_at rows k) row

-- Line n is the first bad one, counted from 1: the lines before it are those of rows that may begin a table, and what is left
-- begins with the line of no row that may stand behind them, and is not a table's end.
pub record IsFirstBad (root bytes : Text) (n : ℕ) : Type 0 where
  pub rows : List Row
  pub rest : Text
  pub text : bytes ≡ table_text rows ++ rest
  pub good : AreRows root rows
  pub number : n ≡ length rows + 1
  pub none : (row : Row) (more : Text) → AreRows root (rows ++ row ∷ []) → rest ≢ line_of row ++ 10 ∷ more
  pub unfinished : length rest ≡ 0 → length rows ≡ 0
