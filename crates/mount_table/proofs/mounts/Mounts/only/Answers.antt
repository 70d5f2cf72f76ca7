use Rattle.std.proofs.Common.{◌≡◌, List, [], ◌∷◌, sym, subst, rules}
use Rattle.mount_table.specs.Mounts.{new_row, root_of, IsTable}
use Rattle.mount_table.specs.declared.mounts.Row.{Row}
use Rattle.mount_table.proofs.TableLemmas.{only_root}
use Rattle.mount_table.proofs.mounts.Mounts.only.Goals as goal

pub invariant_of-result : goal.invariant_of-result
invariant_of-result c =
    let rows : c.push.new.self.items ≡ new_row [] c.args.root.now ∷ [] = search rules in
    let good = c.in_ok-copy.ensures.good in
    subst (λ (rows : List Row). IsTable (root_of rows) rows) (sym rows) (only_root c.args.root.now good.0 good.1)
