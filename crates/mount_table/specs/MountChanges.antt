-- What is answered where a mount comes or goes.
use Rattle.std.specs.Prelude.{◌≡◌, ◌⊎◌, ℕ, ◌<◌, ◌≤◌, List, [], length, Result, Ok, Err}
use Rattle.std.specs.List.{remove}
use Rattle.gopass_base.specs.Text.{Text}
use Rattle.mount_table.specs.Mounts.{row_at, HasAliasAt, LacksAlias, IsFirstNest, IsApart, IsAdded, most_mounts}
use Rattle.mount_table.specs.declared.mounts.Row.{Row}
use Rattle.mount_table.specs.declared.mounts.AddFault.{AddFault}
use Rattle.mount_table.specs.declared.mounts.AddFault.TheVariants.{AliasUsed, DirNests, Full, NoMemory}
use Rattle.mount_table.specs.declared.mounts.NotMounted.{NotMounted}

-- the first of these that applies: the alias is used, the directory nests, there are 64 rows; there is no memory; else the row comes
abbrev pub AddsMount : List Row → List Row → Row → Result (Unit {0}) AddFault → Type 0
AddsMount rows now row (Ok done) = LacksAlias rows row.alias × IsApart rows row.dir × (length rows < most_mounts) × IsAdded rows row now
AddsMount rows now row (Err AliasUsed) = ((k : ℕ) × HasAliasAt rows row.alias k) × (now ≡ rows)
AddsMount rows now row (Err (DirNests k)) = LacksAlias rows row.alias × IsFirstNest rows row.dir k × (now ≡ rows)
AddsMount rows now row (Err Full) = LacksAlias rows row.alias × IsApart rows row.dir × (most_mounts ≤ length rows) × (now ≡ rows)
AddsMount rows now row (Err NoMemory) = LacksAlias rows row.alias × IsApart rows row.dir × (length rows < most_mounts) × (now ≡ rows)

-- the row of the alias goes, and no other; the root's row stays
abbrev pub RemovesMount : List Row → List Row → Text → Result Row NotMounted → Type 0
RemovesMount rows now alias (Ok row) = (k : ℕ) × HasAliasAt rows alias k × (0 < length alias) × (row ≡ row_at rows k) × (now ≡ remove rows k)
RemovesMount rows now alias (Err absent) = ((alias ≡ []) ⊎ LacksAlias rows alias) × (now ≡ rows)
