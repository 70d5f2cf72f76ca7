use Rattle.mount_table.specs.Prefixes.{Holds}
use Rattle.mount_table.specs.declared.mounts.Row.{Row}
use Rattle.mount_table.proofs.MountLemmas.{IsLast}
use Rattle.mount_table.proofs.mounts.last_holding.Given as goal

abbrev pub invariant-loop-i : goal.invariant-loop-i
invariant-loop-i l = IsLast (λ (row : Row). Holds row.alias l.name) l.rows l.last l.i
