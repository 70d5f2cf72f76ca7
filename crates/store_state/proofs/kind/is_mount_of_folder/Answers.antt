use Rattle.std.proofs.Common.{subst}
use Rattle.std.proofs.lemmas.Bool.Decides.{Decides-eqb}
use Rattle.mount_table.specs.Mounts.{IsMountOfFolder, root_of}
use Rattle.store_state.proofs.KindLemmas.{one_folder_row}
use Rattle.store_state.proofs.kind.is_mount_of_folder.Goals as goal

pub returns : goal.returns
returns c =
    let tells = Decides-eqb c.resolve_folder.result c.args.row in (
      λ t. subst (IsMountOfFolder c.args.mounts.now c.args.folder.now) (tells.0 t) c.resolve_folder.ensures,
      λ h. tells.1 (one_folder_row (root_of c.args.mounts.now) c.args.folder.now c.args.mounts.now c.resolve_folder.result c.args.row c.requires c.resolve_folder.ensures h),
    )
