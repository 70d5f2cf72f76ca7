-- What the steps of an edit find.
use Rattle.std.specs.Prelude.{◌≡◌, ℕ, ◌+◌, ◌<◌, ◌≤◌, Bool, true, false, List, [], ◌∷◌, length, insert, remove, slice_index_or, Option, None, Some, Result, Ok, Err, if◌then◌else◌}
use Rattle.std.specs.List.Sorted.{IsBinarySearchResult, IsSearchInRange}
use Rattle.std.specs.declared.cmp.Ordering.{Ordering}
use Rattle.gopass_base.specs.Text.{Text}
use Rattle.gopass_base.specs.Order.{IsRising}
use Rattle.mount_table.specs.Names.{IsName}
use Rattle.mount_table.specs.Folders.{IsFolder}
use Rattle.mount_table.specs.Mounts.{IsTable}
use Rattle.mount_table.specs.declared.mounts.Row.{Row}
use Rattle.recipient_files.specs.Ids.{Ids, IsRecipients}
use Rattle.pending_journal.specs.declared.change.Change.{Change}
use Rattle.pending_journal.specs.declared.vault.CommitFault.{CommitFault}
use Rattle.pending_journal.specs.declared.vault.CommitFault.TheVariants.{Disk as CommitDisk, Stuck as CommitStuck, NoMemory as CommitNoMemory}
use Rattle.pending_journal.specs.Change.{puts_in}
use Rattle.cipher_port.specs.Tool.{Opens}
use Rattle.store_state.specs.Agrees.{Agrees}
use Rattle.store_state.specs.declared.opening.Found.{Found}
use Rattle.store_state.specs.State.{State}
use Rattle.store_core.specs.declared.change_of.File.{File}
use Rattle.store_core.specs.declared.edit.ApplyFault.{ApplyFault}
use Rattle.store_core.specs.declared.edit.ApplyFault.TheVariants.{Disk, NoMemory}
use Rattle.store_core.specs.Entries.{text_in}
use Rattle.store_core.specs.Edit.{Entry, OfSecret, OfRule, OfTemplate, edited, file_of_entry, place, resized}

-- what a fault of a commit makes of an edit, on a store that was not stuck
abbrev pub IsFaultOf : CommitFault → ApplyFault → Type 0
IsFaultOf CommitDisk fault = fault ≡ Disk
IsFaultOf CommitStuck fault = ⊥
IsFaultOf CommitNoMemory fault = fault ≡ NoMemory

-- how many changes were committed
abbrev pub made_by : {T E : Type 0} → Result T E → ℕ
made_by (Ok done) = 1
made_by (Err fault) = 0

-- ---- the change

-- the ids are a set, where there are any
abbrev pub AreIds : Option Ids → Type 0
AreIds None = Unit {0}
AreIds (Some ids) = IsRecipients ids

-- names and folders are some, and so are sets of ids
abbrev pub IsGood : Entry → Type 0
IsGood (OfSecret name file) = IsName name
IsGood (OfRule folder ids) = IsFolder folder × AreIds ids
IsGood (OfTemplate folder file) = IsFolder folder

abbrev pub AreGood : List Entry → Type 0
AreGood [] = Unit {0}
AreGood (entry ∷ entries) = IsGood entry × AreGood entries

-- the files of entries, each with its bytes or with nothing
abbrev pub Places : Type 0
Places = List (Text × Option Text)

abbrev pub places_of : List Row → List Entry → Places
places_of mounts [] = []
places_of mounts (entry ∷ entries) = (place mounts entry, file_of_entry entry) ∷ places_of mounts entries

-- which of them are put, and which are dropped
abbrev pub puts_of : Places → List (Text × Text)
puts_of [] = []
puts_of ((path, Some bytes) ∷ places) = (path, bytes) ∷ puts_of places
puts_of ((path, None) ∷ places) = puts_of places

abbrev pub drops_of : Places → List Text
drops_of [] = []
drops_of ((path, Some bytes) ∷ places) = drops_of places
drops_of ((path, None) ∷ places) = path ∷ drops_of places

-- what one of them puts, and what it drops
abbrev pub put_by : Text → Option Text → List (Text × Text)
put_by path (Some bytes) = (path, bytes) ∷ []
put_by path None = []

abbrev pub drop_by : Text → Option Text → List Text
drop_by path (Some bytes) = []
drop_by path None = path ∷ []

-- the change puts and drops the files of these entries, and nothing else
pub record IsChangeOf (root : Text) (mounts : List Row) (entries : List Entry) (change : Change) : Type 0 where
  pub root_is : change.root ≡ root
  pub good : AreGood entries
  pub puts : puts_in change ≡ puts_of (places_of mounts entries)
  pub drops : change.drops.items ≡ drops_of (places_of mounts entries)

-- the file of this entry
abbrev pub IsFileOf : List Row → Entry → File → Type 0
IsFileOf mounts entry file = (file.path ≡ place mounts entry) × (text_in file.bytes ≡ file_of_entry entry)

-- ---- what is found afterwards

-- the item is among these, or not, by a search: it was there or was not
abbrev pub IsSetAmong : {A : Type 0} → (A → A → Ordering) → (old new : List A) → A → (is was : Bool) → Type 0
IsSetAmong cmp old new item is true =
    (at : ℕ) × IsSearchInRange (Ok at) (length old) × IsBinarySearchResult (λ y. cmp y item) old (Ok at) × (new ≡ (if is then old else remove old at))
IsSetAmong cmp old new item is false =
    (at : ℕ) × IsSearchInRange (Err at) (length old) × IsBinarySearchResult (λ y. cmp y item) old (Err at) × (new ≡ (if is then insert old at item else old))

-- and its file is counted in this row of the numbers of files or not, where that number is not the greatest
abbrev pub IsSetCounted : {A : Type 0} → (A → A → Ordering) → (old new : List A) → (counts now : List ℕ) → (row : ℕ) → A → (is : Bool) → Type 0
IsSetCounted cmp old new counts now row item is = (was : Bool) × IsSetAmong cmp old new item is was × (slice_index_or counts row 0 < 18446744073709551615 → now ≡ resized was is row counts)

-- none of the numbers is greater
abbrev pub AreFew : List ℕ → ℕ → Type 0
AreFew counts most = (k : ℕ) → slice_index_or counts k 0 ≤ most

-- what was found, with these entries made: of each state that had what was found, the edited one has what is found now
pub record IsMadeBy (entries : List Entry) (old new : Found) : Type 0 where
  pub mounts : new.mounts ≡ old.mounts
  pub rising : IsRising old.seen.names.items → IsRising new.seen.names.items
  pub agrees : (opens : Opens) (root : Text) (state : State) (most : ℕ) → IsTable root old.mounts → most + length entries < 18446744073709551615 → AreFew old.counts.items most
      → Agrees state old → Agrees (edited opens entries state) new × AreFew new.counts.items (most + length entries)
