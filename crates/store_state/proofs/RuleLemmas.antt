-- The file of a folder's rule.
use Rattle.std.proofs.Common.{inl, refl, ap, subst, ◌∙◌}
use Rattle.std.specs.Prelude.{◌≡◌, ◌≢◌, ℕ, List, false, None}
use Rattle.gopass_base.specs.Text.{Text}
use Rattle.mount_table.specs.Mounts.{row_at, root_of, IsTable, IsMountOfFolder}
use Rattle.mount_table.specs.Folders.{IsFolder}
use Rattle.mount_table.specs.declared.mounts.Row.{Row}
use Rattle.disk_model.specs.Files.{Files}
use Rattle.disk_model.specs.Listing.{LiesIn}
use Rattle.pending_journal.specs.Service.{is_service, without_service}
use Rattle.store_state.specs.declared.kind.Kind.TheVariants.{Rule}
use Rattle.store_state.specs.Places.{IsFolderFile, IsFolderOf, rule_file, rule_path, secret_path, template_path}
use Rattle.store_state.specs.Found.{LiesAs}
use Rattle.store_state.specs.Tree.{tree_files}
use Rattle.store_state.proofs.FolderFileLemmas.{path_of_folder_file, folder_of_folder_file, folder_file_lies_as, folder_file_lies_in, folder_file_plain, folder_file_shown, folder_file_stays, no_secret, rule_no_template}

is_rule : IsFolderFile rule_file
is_rule = inl refl

pub path_of_rule : (mounts : List Row) (k : ℕ) (path folder : Text) → LiesAs mounts k (Rule folder) path → path ≡ rule_path mounts k folder
path_of_rule mounts k path folder lies = path_of_folder_file mounts k folder rule_file path lies

pub folder_of_rule : (mounts : List Row) (k : ℕ) (path folder : Text) → LiesAs mounts k (Rule folder) path → IsFolderOf mounts k folder
folder_of_rule mounts k path folder lies = folder_of_folder_file mounts k folder rule_file path lies

pub rule_lies_as : (mounts : List Row) (k : ℕ) (folder : Text) → IsFolderOf mounts k folder → LiesAs mounts k (Rule folder) (rule_path mounts k folder)
rule_lies_as mounts k folder own = folder_file_lies_as mounts k folder rule_file own

pub rule_lies_in : (mounts : List Row) (k : ℕ) (folder : Text) → IsFolderOf mounts k folder → LiesIn (row_at mounts k).dir (rule_path mounts k folder)
rule_lies_in mounts k folder own = folder_file_lies_in rule_file is_rule mounts k folder own

pub rule_shown : (root : Text) (files : Files) (mounts : List Row) (k : ℕ) (folder : Text) → IsTable root mounts → IsFolderOf mounts k folder → without_service root files (rule_path mounts k folder) ≡ files (rule_path mounts k folder)
rule_shown root files mounts k folder table own = folder_file_shown root files mounts k folder rule_file is_rule table own

pub rule_stays : (root : Text) (files : Files) (mounts : List Row) (k : ℕ) (folder : Text) → IsTable root mounts → IsFolderOf mounts k folder → tree_files root files (rule_path mounts k folder) ≡ files (rule_path mounts k folder)
rule_stays root files mounts k folder table own = folder_file_stays root files mounts k folder rule_file is_rule table own

-- it is the file of no template and of no secret
pub rule_path_differs : (mounts : List Row) (j k : ℕ) (folder other name : Text) → (rule_path mounts j folder ≢ template_path mounts k other) × (rule_path mounts j folder ≢ secret_path mounts name)
rule_path_differs mounts j k folder other name = (rule_no_template mounts j k folder other, no_secret mounts j folder rule_file name is_rule)

-- nor one of the vault's own
pub rule_no_service : (root : Text) (mounts : List Row) (k : ℕ) (folder : Text) → IsTable root mounts → IsFolderOf mounts k folder → is_service root (rule_path mounts k folder) ≡ false
rule_no_service root mounts k folder table own = folder_file_plain root (λ path. None) mounts k folder rule_file is_rule table own

pub rule_file_plain : (root : Text) (mounts : List Row) (folder path : Text) (k : ℕ) → root_of mounts ≡ root → IsTable (root_of mounts) mounts → IsFolder folder → IsMountOfFolder mounts folder k → path ≡ rule_path mounts k folder → is_service root path ≡ false
rule_file_plain root mounts folder path k rooted table good mount at = ap (is_service root) at ∙ rule_no_service root mounts k folder (subst (λ (r : Text). IsTable r mounts) rooted table) (good, mount)
