-- What the parts of an opening come to.
use Rattle.std.specs.Prelude.{◌≡◌, ◌≢◌, ◌⊎◌, true, None}
use Rattle.gopass_base.specs.Text.{Text}
use Rattle.disk_model.specs.Files.{Files}
use Rattle.disk_model.specs.Disk.{View, Only}
use Rattle.disk_model.specs.Runs.{Leaves}
use Rattle.pending_journal.specs.Service.{is_service, without_service, journal_path}
use Rattle.pending_journal.specs.Redo.{RecoversTo, IsAlike}

-- an image of the disk, or files that stand for the same as its files
abbrev pub IsOldOrAlike : Text → View → Files → Type 0
IsOldOrAlike root disk m = disk.images m ⊎ IsAlike root disk.files m

-- the same files, or such as stand for the same
abbrev pub IsSameOrAlike : Text → Files → Files → Type 0
IsSameOrAlike root files m = (m ≡ files) ⊎ IsAlike root files m

-- no file was changed, and what a crash leaves at any moment was an image before
pub record IsUntouched (old new : View) : Type 0 where
  pub files : new.files ≡ old.files
  pub leaves : Leaves old.images old new

-- the journal's change is made and the journal is gone: without the vault's own these are the files that those before
-- stand for, and they are the only image
pub record IsMended (root : Text) (before : Files) (disk : View) : Type 0 where
  pub only : Only disk.files disk
  pub journal : disk.files (journal_path root) ≡ None
  pub stands : RecoversTo root before (without_service root disk.files)

-- of the vault's own nothing is there but the journal
abbrev pub IsCleared : Text → Files → Type 0
IsCleared root files = (path : Text) → is_service root path ≡ true → path ≢ journal_path root → files path ≡ None
