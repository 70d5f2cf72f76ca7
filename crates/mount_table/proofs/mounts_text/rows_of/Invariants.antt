use Rattle.std.proofs.Common.{length}
use Rattle.mount_table.proofs.LineLemmas.{SoFar}
use Rattle.mount_table.proofs.mounts_text.rows_of.Given as goal

abbrev pub invariant-loop-line : goal.invariant-loop-line
invariant-loop-line l = SoFar l.root l.bytes l.rows.items l.rest

abbrev pub decreases-loop-line : goal.decreases-loop-line
decreases-loop-line l = length l.rest
