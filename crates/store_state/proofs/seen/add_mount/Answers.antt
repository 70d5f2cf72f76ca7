use Rattle.std.proofs.Common.{rules, sym, subst, refl, get_or}
use Rattle.std.specs.Prelude.{List}
use Rattle.gopass_base.specs.Text.{Text}
use Rattle.mount_table.specs.Mounts.{row_at}
use Rattle.store_state.specs.Tree.{IsTree}
use Rattle.store_state.proofs.KindLemmas.{dir_at}
use Rattle.store_state.proofs.SeenLemmas.{tree_below}
use Rattle.store_state.proofs.seen.add_mount.Goals as goal

pub returns-clause-lists : goal.returns-clause-lists
returns-clause-lists g c told =
    let files = (g.D.Disk.meaning.view c.args.vault.now.disk).files in
    let root = c.args.vault.now.root in
    let own = (get_or c.rows-rows.result.now c.args.row c.index-rows-row.result).dir in
    let dir = dir_at own c.rows-rows.result.now c.args.mounts.now c.args.row c.index-rows-row.result refl c.rows-rows.ensures.rows c.requires.inside in
    let tree = subst (λ (d : Text). IsTree root files d c.in_ok-paths.paths.items) dir (c.in_ok-paths.ensures.lists told) in
    let here = subst (λ (ps : List Text). IsTree root files (row_at c.args.mounts.now c.args.row).dir ps) (sym c.deref.ensures.value) tree in
    (c.deref.result.now, here, c.in_ok-add_paths.ensures (tree_below root files c.args.mounts.now c.args.row c.deref.result.now here), search rules)
