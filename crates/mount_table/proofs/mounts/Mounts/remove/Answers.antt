use Rattle.std.proofs.Common.{◌≡◌, ◌≢◌, ◌<◌, List, length, ap, sym, subst, arith}
use Rattle.std.proofs.lemmas.Bool.Decides.{nat_tests}
use Rattle.mount_table.specs.Mounts.{row_at, root_of, IsTable, HasAliasAt}
use Rattle.mount_table.specs.declared.mounts.Row.{Row}
use Rattle.mount_table.proofs.TableLemmas.{without_row, not_root, rooted}
use Rattle.mount_table.proofs.mounts.Mounts.remove.Goals as goal

pub invariant_of-self : goal.invariant_of-self
invariant_of-self c =
    let rows = c.self.inside.rows.items in
    let here : HasAliasAt rows c.args.alias.now c.in-Some.row = subst (λ (r : List Row). HasAliasAt r c.args.alias.now c.in-Some.row) c.deref.ensures.value c.in-Some.ensures in
    let empty : length c.text.result.now ≢ 0 = grind (arith, nat_tests) in
    let bytes : length c.text.result.now ≡ length c.args.alias.now = ap length c.text.ensures.text in
    let some : 0 < length (row_at rows c.in-Some.row).alias = omega (arith, empty, bytes, ap length here.1) in
    subst (λ (now : List Row). IsTable (root_of now) now) (sym c.remove.ensures.items)
    (rooted (root_of rows) _ (without_row (root_of rows) rows c.in-Some.row here.0 (not_root (root_of rows) rows c.in-Some.row c.self.invariant some) c.self.invariant))
