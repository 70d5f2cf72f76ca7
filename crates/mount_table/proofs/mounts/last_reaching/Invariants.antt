use Rattle.mount_table.specs.Prefixes.{IsPrefix, folder_parts}
use Rattle.mount_table.specs.declared.mounts.Row.{Row}
use Rattle.mount_table.proofs.MountLemmas.{IsLast}
use Rattle.mount_table.proofs.mounts.last_reaching.Given as goal

abbrev pub invariant-loop-i : goal.invariant-loop-i
invariant-loop-i l = IsLast (λ (row : Row). IsPrefix (folder_parts row.alias) (folder_parts l.folder)) l.rows l.reached l.i
