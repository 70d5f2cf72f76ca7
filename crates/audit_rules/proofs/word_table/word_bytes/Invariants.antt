use Rattle.std.proofs.Common.{◌≡◌, ◌≤◌, length, take}
use Rattle.audit_rules.specs.Words.{without_zeros}
use Rattle.audit_rules.proofs.word_table.word_bytes.Given as goal

abbrev pub invariant-loop-end : goal.invariant-loop-end
invariant-loop-end l = record {
  bound : l.end ≤ length l.bytes;
  rest : without_zeros (take l.end l.bytes) ≡ without_zeros l.bytes;
}

abbrev pub decreases-loop-end : goal.decreases-loop-end
decreases-loop-end l = l.end
