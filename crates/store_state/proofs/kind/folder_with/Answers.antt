use Rattle.std.proofs.Common.{subst}
use Rattle.std.specs.Prelude.{IfOk}
use Rattle.std.proofs.lemmas.Result.{IfOk-weaker}
use Rattle.gopass_base.specs.Text.{Text}
use Rattle.store_state.proofs.KindLemmas.{FolderIs, IsFolderWith, folder_there}
use Rattle.store_state.proofs.kind.folder_with.Goals as goal

pub returns-in-Some : goal.returns-in-Some
returns-in-Some c =
    subst (λ (alias : Text). IfOk c.folder_at.result (IsFolderWith c.args.file.now alias c.args.rest.now)) c.text.ensures.text
    (IfOk-weaker c.folder_at.result (FolderIs c.text.result.now c.in-Some.below.now) (IsFolderWith c.args.file.now c.text.result.now c.args.rest.now)
    (λ found h. folder_there c.text.result.now c.args.rest.now c.in-Some.below.now c.args.file.now found c.in-Some.ensures h) c.folder_at.ensures)
