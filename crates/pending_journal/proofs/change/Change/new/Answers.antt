use Rattle.pending_journal.proofs.StageLemmas.{fresh_good}
use Rattle.pending_journal.proofs.change.Change.new.Goals as goal

pub file_at-requires : goal.file_at-requires
file_at-requires c = fresh_good c.args.root.now
