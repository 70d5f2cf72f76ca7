use Rattle.mount_table.proofs.MountLemmas.{one_holder, one_row}
use Rattle.mount_table.proofs.MountOfLemmas.{mount_computed}
use Rattle.mount_table.proofs.mounts.one_mount.Goals as goal

pub returns-clause-aliases : goal.returns-clause-aliases
returns-clause-aliases c = one_holder

pub returns-clause-row : goal.returns-clause-row
returns-clause-row c = one_row

pub returns-clause-computed : goal.returns-clause-computed
returns-clause-computed c = mount_computed
