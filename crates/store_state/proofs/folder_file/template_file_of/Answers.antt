use Rattle.std.proofs.Common.{◌≡◌, ℕ, ◌∙◌, ap}
use Rattle.std.proofs.lemmas.Result.{IfOk-weaker}
use Rattle.gopass_base.specs.Text.{Text}
use Rattle.mount_table.specs.Mounts.{IsMountOfFolder, root_of}
use Rattle.store_state.specs.Places.{folder_mount, folder_path, template_file, template_path}
use Rattle.store_state.proofs.FolderMountLemmas.{folder_computed}
use Rattle.store_state.proofs.KindLemmas.{one_folder_row}
use Rattle.store_state.proofs.folder_file.template_file_of.Goals as goal

pub returns-clause-path : goal.returns-clause-path
returns-clause-path c =
    let mounts = c.args.mounts.now in
    let folder = c.args.folder.now in
    let table = c.folder_file.ensures.table in
    IfOk-weaker c.folder_file.result (λ (path : Text). (k : ℕ) × IsMountOfFolder mounts folder k × (path ≡ folder_path mounts k folder template_file)) (λ (path : Text). path ≡ template_path mounts (folder_mount mounts folder) folder)
    (λ path (k, own, is). is ∙ ap (λ n. folder_path mounts n folder template_file) (one_folder_row (root_of mounts) folder mounts k (folder_mount mounts folder) table own (folder_computed (root_of mounts) folder mounts table)))
    c.folder_file.ensures.path
