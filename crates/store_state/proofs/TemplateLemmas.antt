-- The file of a folder's template.
use Rattle.std.proofs.Common.{inr, refl}
use Rattle.std.specs.Prelude.{◌≡◌, ℕ, List, false, None}
use Rattle.gopass_base.specs.Text.{Text}
use Rattle.mount_table.specs.Mounts.{row_at, IsTable}
use Rattle.mount_table.specs.declared.mounts.Row.{Row}
use Rattle.disk_model.specs.Files.{Files}
use Rattle.disk_model.specs.Listing.{LiesIn}
use Rattle.store_state.specs.declared.kind.Kind.TheVariants.{Template}
use Rattle.store_state.specs.Places.{IsFolderFile, IsFolderOf, template_file, template_path}
use Rattle.store_state.specs.Found.{LiesAs}
use Rattle.store_state.specs.Tree.{tree_files}
use Rattle.pending_journal.specs.Service.{is_service, without_service}
use Rattle.store_state.proofs.FolderFileLemmas.{path_of_folder_file, folder_of_folder_file, folder_file_lies_as, folder_file_lies_in, folder_file_plain, folder_file_shown, folder_file_stays}

is_template : IsFolderFile template_file
is_template = inr refl

pub path_of_template : (mounts : List Row) (k : ℕ) (path folder : Text) → LiesAs mounts k (Template folder) path → path ≡ template_path mounts k folder
path_of_template mounts k path folder lies = path_of_folder_file mounts k folder template_file path lies

pub folder_of_template : (mounts : List Row) (k : ℕ) (path folder : Text) → LiesAs mounts k (Template folder) path → IsFolderOf mounts k folder
folder_of_template mounts k path folder lies = folder_of_folder_file mounts k folder template_file path lies

pub template_lies_as : (mounts : List Row) (k : ℕ) (folder : Text) → IsFolderOf mounts k folder → LiesAs mounts k (Template folder) (template_path mounts k folder)
template_lies_as mounts k folder own = folder_file_lies_as mounts k folder template_file own

pub template_lies_in : (mounts : List Row) (k : ℕ) (folder : Text) → IsFolderOf mounts k folder → LiesIn (row_at mounts k).dir (template_path mounts k folder)
template_lies_in mounts k folder own = folder_file_lies_in template_file is_template mounts k folder own

pub template_shown : (root : Text) (files : Files) (mounts : List Row) (k : ℕ) (folder : Text) → IsTable root mounts → IsFolderOf mounts k folder → without_service root files (template_path mounts k folder) ≡ files (template_path mounts k folder)
template_shown root files mounts k folder table own = folder_file_shown root files mounts k folder template_file is_template table own

pub template_stays : (root : Text) (files : Files) (mounts : List Row) (k : ℕ) (folder : Text) → IsTable root mounts → IsFolderOf mounts k folder → tree_files root files (template_path mounts k folder) ≡ files (template_path mounts k folder)
template_stays root files mounts k folder table own = folder_file_stays root files mounts k folder template_file is_template table own

-- nor one of the vault's own
pub template_no_service : (root : Text) (mounts : List Row) (k : ℕ) (folder : Text) → IsTable root mounts → IsFolderOf mounts k folder → is_service root (template_path mounts k folder) ≡ false
template_no_service root mounts k folder table own = folder_file_plain root (λ path. None) mounts k folder template_file is_template table own
