use Rattle.std.proofs.Common.{subst}
use Rattle.std.proofs.lemmas.Bool.Decides.{Decides-eqb}
use Rattle.mount_table.specs.Mounts.{IsMountOf, root_of}
use Rattle.mount_table.proofs.MountLemmas.{one_row}
use Rattle.store_state.proofs.kind.is_mount_of.Goals as goal

pub returns : goal.returns
returns c =
    let tells = Decides-eqb c.resolve.result.row c.args.row in (
      λ t. subst (IsMountOf c.args.mounts.now c.args.name.now) (tells.0 t) c.resolve.ensures.mount,
      λ h. tells.1 (one_row (root_of c.args.mounts.now) c.args.name.now c.args.mounts.now c.resolve.result.row c.args.row c.requires c.resolve.ensures.mount h),
    )
