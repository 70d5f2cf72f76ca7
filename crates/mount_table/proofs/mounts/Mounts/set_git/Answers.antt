use Rattle.std.proofs.Common.{◌≡◌, ◌<◌, length, ap, ◌∙◌, arith, true}
use Rattle.std.proofs.lemmas.List.{get_or_default}
use Rattle.mount_table.specs.Mounts.{row_at, root_of, no_row}
use Rattle.mount_table.specs.declared.mounts.Row.{Row}
use Rattle.mount_table.proofs.TableLemmas.{with_git, rooted}
use Rattle.mount_table.proofs.mounts.Mounts.set_git.Goals as goal

pub invariant_of-self : goal.invariant_of-self
invariant_of-self c =
    let rows = c.self.inside.rows.items in
    let inside : c.args.row < length rows = omega (arith, c.requires, ap length c.self.view_is) in
    let same : c.index_mut.result.now ≡ row_at rows c.args.row = c.index_mut.ensures.value ∙ get_or_default rows c.args.row c.index_mut.result.now no_row inside in
    rooted (root_of rows) _ (with_git (root_of rows) rows c.args.row (record { alias = c.index_mut.result.now.alias; dir = c.index_mut.result.now.dir; git = true }) inside
    (ap (λ (r : Row). r.alias) same) (ap (λ (r : Row). r.dir) same) c.self.invariant)
