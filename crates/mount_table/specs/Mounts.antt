-- Mounts: the directories of a store, each under its alias.
use Rattle.std.specs.Prelude.{◌≡◌, ◌≢◌, ℕ, ◌<◌, ◌≤◌, false, List, [], length, drop, slice_index_or, IsTrue}
use Rattle.std.specs.List.{insert}
use Rattle.std.specs.Str.{is_utf8}
use Rattle.std.specs.Ordering.{nat_cmp}
use Rattle.std.specs.declared.cmp.Ordering.TheVariants.{Less}
use Rattle.std.specs.Cmp.Lexicographic.{slice_cmp}
use Rattle.gopass_base.specs.Text.{Text}
use Rattle.mount_table.specs.Prefixes.{folder_parts, IsPrefix, Holds, Nest, rest_start}
use Rattle.mount_table.specs.Folders.{IsFolder}
use Rattle.gopass_base.specs.Paths.{IsDirPath, file_of}
use Rattle.mount_table.specs.declared.mounts.Row.{Row}

-- a comes before b in the order of bytes
abbrev pub IsBelow : Text → Text → Type 0
IsBelow a b = slice_cmp nat_cmp a b ≡ Less

-- a row by itself: a folder and a directory
pub record IsRow (row : Row) : Type 0 where
  pub alias_text : IsTrue (is_utf8 row.alias)
  pub alias_folder : IsFolder row.alias
  pub dir_text : IsTrue (is_utf8 row.dir)
  pub dir_path : IsDirPath row.dir

-- a row stands before another one: aliases rise, and directories do not nest
pub record IsBefore (row later : Row) : Type 0 where
  pub rises : IsBelow row.alias later.alias
  pub apart : ¬ Nest row.dir later.dir

-- what stands for a row where there is none
abbrev pub no_row : Row
no_row = record { alias = []; dir = []; git = false }

-- the k-th row, counted from 0
abbrev pub row_at : List Row → ℕ → Row
row_at rows k = slice_index_or rows k no_row

-- the directory of the first row
abbrev pub root_of : List Row → Text
root_of rows = (row_at rows 0).dir

-- so many mounts there are at most
abbrev pub most_mounts : ℕ
most_mounts = 64

-- not too many rows, the first of which is the root's, and each of which stands before those behind it
pub record AreRows (root : Text) (rows : List Row) : Type 0 where
  pub most : length rows ≤ most_mounts
  pub each : (k : ℕ) → k < length rows → IsRow (row_at rows k)
  pub first : 0 < length rows → ((row_at rows 0).alias ≡ []) × ((row_at rows 0).dir ≡ root)
  pub before : (i k : ℕ) → i < k → k < length rows → IsBefore (row_at rows i) (row_at rows k)

-- the mounts of a store with this root directory: such rows, of which there is one at least
pub record IsTable (root : Text) (rows : List Row) : Type 0 where
  pub some : 1 ≤ length rows
  pub rows_are : AreRows root rows

-- a row that is new: git is off
abbrev pub new_row : Text → Text → Row
new_row alias dir = record { alias = alias; dir = dir; git = false }

-- ---- whose mount is whose

-- the row with the most parts among those whose alias holds the name
pub record IsMountOf (rows : List Row) (name : Text) (k : ℕ) : Type 0 where
  pub inside : k < length rows
  pub holds : Holds (row_at rows k).alias name
  pub most : (j : ℕ) → j < length rows → Holds (row_at rows j).alias name → length (folder_parts (row_at rows j).alias) ≤ length (folder_parts (row_at rows k).alias)

-- the row with the most parts among those whose alias is the folder or lies above it
pub record IsMountOfFolder (rows : List Row) (folder : Text) (k : ℕ) : Type 0 where
  pub inside : k < length rows
  pub reaches : IsPrefix (folder_parts (row_at rows k).alias) (folder_parts folder)
  pub most : (j : ℕ) → j < length rows → IsPrefix (folder_parts (row_at rows j).alias) (folder_parts folder) → length (folder_parts (row_at rows j).alias) ≤ length (folder_parts (row_at rows k).alias)

-- the file of a secret lies in the directory of its mount, by the rest of its name
pub record IsFileOf (rows : List Row) (name path : Text) : Type 0 where
  pub row : ℕ
  pub mount : IsMountOf rows name row
  pub file : path ≡ file_of (row_at rows row).dir (drop (rest_start (row_at rows row).alias name) name)

-- ---- what changes

-- the k-th row has this alias
abbrev pub HasAliasAt : List Row → Text → ℕ → Type 0
HasAliasAt rows alias k = (k < length rows) × ((row_at rows k).alias ≡ alias)

-- no row has this alias
abbrev pub LacksAlias : List Row → Text → Type 0
LacksAlias rows alias = (k : ℕ) → k < length rows → (row_at rows k).alias ≢ alias

-- the directory nests with that of the k-th row, and with none before it
pub record IsFirstNest (rows : List Row) (dir : Text) (k : ℕ) : Type 0 where
  pub inside : k < length rows
  pub nests : Nest (row_at rows k).dir dir
  pub before : (i : ℕ) → i < k → ¬ Nest (row_at rows i).dir dir

-- the directory nests with that of no row
abbrev pub IsApart : List Row → Text → Type 0
IsApart rows dir = (k : ℕ) → k < length rows → ¬ Nest (row_at rows k).dir dir

-- the row comes in somewhere, and all others stay
abbrev pub IsAdded : List Row → Row → List Row → Type 0
IsAdded rows row now = (k : ℕ) × (k ≤ length rows) × (now ≡ insert rows k row)
