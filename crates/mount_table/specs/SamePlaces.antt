-- Tables that differ in their marks alone.
use Rattle.std.specs.Prelude.{◌≡◌, ℕ, List, length}
use Rattle.mount_table.specs.Mounts.{row_at}
use Rattle.mount_table.specs.declared.mounts.Row.{Row}

-- as many rows, each with the same alias and directory, whatever its mark
pub record HaveSamePlaces (rows others : List Row) : Type 0 where
  pub as_many : length others ≡ length rows
  pub aliases : (k : ℕ) → (row_at others k).alias ≡ (row_at rows k).alias
  pub dirs : (k : ℕ) → (row_at others k).dir ≡ (row_at rows k).dir
