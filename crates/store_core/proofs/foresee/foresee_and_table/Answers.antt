use Rattle.std.proofs.Common.{List, ap}
use Rattle.mount_table.specs.declared.mounts.Row.{Row}
use Rattle.store_core.proofs.foresee.foresee_and_table.Goals as goal

pub returns : goal.returns
returns c = (c.in_ok-next.next, c.in_ok-next.ensures, ap (λ (rows : List Row). record c.in_ok-next.next { mounts = rows }) c.in_ok-next-2.ensures)
