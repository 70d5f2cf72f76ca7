-- An edit that may write another table of mounts besides, in which each path keeps its place.
use Rattle.std.specs.Prelude.{◌≡◌, ℕ, ◌<◌, ◌≤◌, List, [], ◌∷◌, ◌++◌, Option, None, Some}
use Rattle.gopass_base.specs.Text.{Text}
use Rattle.mount_table.specs.MountsText.{table_text}
use Rattle.mount_table.specs.SamePlaces.{HaveSamePlaces}
use Rattle.mount_table.specs.declared.mounts.Row.{Row}
use Rattle.disk_model.specs.Files.{Files}
use Rattle.pending_journal.specs.declared.change.Change.{Change}
use Rattle.pending_journal.specs.Change.{puts_in}
use Rattle.pending_journal.specs.Journal.{most_steps}
use Rattle.store_state.specs.declared.opening.Found.{Found}
use Rattle.store_state.specs.State.{State, mounts_path}
use Rattle.store_core.specs.Applying.{AreGood, IsMadeBy, Places, drops_of, places_of, puts_of}
use Rattle.store_core.specs.Edit.{AreWritten, Entry, paths_in}

-- a table has the same places as the mounts, where there is one
abbrev pub FitsMounts : List Row → Option (List Row) → Type 0
FitsMounts mounts None = Unit {0}
FitsMounts mounts (Some rows) = HaveSamePlaces mounts rows

-- there is room in a change for so many files, and for that of the table where there is one
abbrev pub HasRoom : ℕ → Option (List Row) → Type 0
HasRoom files None = files ≤ most_steps
HasRoom files (Some rows) = files < most_steps

-- the state with this table, where there is one
abbrev pub with_table : Option (List Row) → State → State
with_table None state = state
with_table (Some rows) state = record state { mounts = rows }

-- the files of the entries, and the mounts file where there is a table
abbrev pub paths_with_table : (root : Text) → List Row → List Entry → Option (List Row) → List Text
paths_with_table root mounts entries None = paths_in mounts entries
paths_with_table root mounts entries (Some rows) = mounts_path root ∷ paths_in mounts entries

-- each of them is as it is to be
abbrev pub AreWrittenWithTable : (root : Text) → List Row → List Entry → Option (List Row) → Files → Type 0
AreWrittenWithTable root mounts entries None files = AreWritten mounts entries files
AreWrittenWithTable root mounts entries (Some rows) files = (files (mounts_path root) ≡ Some (table_text rows)) × AreWritten mounts entries files

-- ---- the change

-- the files of the entries and of the table where there is one, each with its bytes or with nothing
abbrev pub places_with_table : (root : Text) → List Row → List Entry → Option (List Row) → Places
places_with_table root mounts entries None = places_of mounts entries
places_with_table root mounts entries (Some rows) = places_of mounts entries ++ (mounts_path root, Some (table_text rows)) ∷ []

-- the change puts and drops these files, and nothing else
pub record IsChangeWithTable (root : Text) (mounts : List Row) (entries : List Entry) (table : Option (List Row)) (change : Change) : Type 0 where
  pub root_is : change.root ≡ root
  pub good : AreGood entries
  pub puts : puts_in change ≡ puts_of (places_with_table root mounts entries table)
  pub drops : change.drops.items ≡ drops_of (places_with_table root mounts entries table)

-- ---- what is found afterwards

-- what was found, with the entries made, and with the table where there is one
abbrev pub IsMadeWithTable : List Entry → Option (List Row) → (old new : Found) → Type 0
IsMadeWithTable entries None old new = IsMadeBy entries old new
IsMadeWithTable entries (Some rows) old new = (made : Found) × IsMadeBy entries old made × (new ≡ record made { mounts = rows })
