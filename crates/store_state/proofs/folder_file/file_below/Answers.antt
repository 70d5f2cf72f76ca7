use Rattle.std.proofs.Common.{◌≡◌, ap, sym, ◌∙◌, subst}
use Rattle.gopass_base.specs.Text.{Text}
use Rattle.gopass_base.specs.Paths.{IsFilePath, path_in}
use Rattle.store_state.specs.Places.{folder_rest, in_folder}
use Rattle.store_state.proofs.FolderPathLemmas.{folder_path_good}
use Rattle.store_state.proofs.folder_file.file_below.Goals as goal

pub file_at-requires : goal.file_at-requires
file_at-requires c dir =
    let below : c.rest_below-rest.result.now ≡ folder_rest c.args.row.now.alias c.args.folder.now = c.rest_below-rest.ensures ∙ (λ i. folder_rest (c.text.ensures.text i) (c.text-2.ensures.text i)) in
    let rest : c.deref.result.now ≡ in_folder (folder_rest c.args.row.now.alias c.args.folder.now) c.args.file.now = c.deref.ensures ∙ (c.in_ok-in_folder.ensures ∙ ap (λ t. in_folder t c.args.file.now) below) in
    subst (λ (t : Text). IsFilePath (path_in c.args.row.now.dir t)) (sym rest)
    (folder_path_good c.args.row.now.dir c.args.row.now.alias c.args.folder.now c.args.file.now dir c.text-2.ensures.good c.requires.reaches c.requires.file)
