use Rattle.std.proofs.Common.{◌≡◌, length}
use Rattle.pending_journal.specs.Change.{plan_in}
use Rattle.pending_journal.specs.Steps.{journal_start}
use Rattle.pending_journal.proofs.read.read_lines.Given as goal

abbrev pub invariant-loop-line : goal.invariant-loop-line
invariant-loop-line l = record {
  root : l.change.root ≡ l.fn.change.root;
  text : journal_start (plan_in l.change) l.rest ≡ journal_start (plan_in l.fn.change) l.lines;
}

abbrev pub decreases-loop-line : goal.decreases-loop-line
decreases-loop-line l = length l.rest
