use Rattle.pending_journal.proofs.MendLemmas.{no_bad_journal, one_of_two}
use Rattle.pending_journal.proofs.laws.crashes_are_mended.Goals as goal

pub returns-clause-reads : goal.returns-clause-reads
returns-clause-reads c = no_bad_journal c.args.root.now

pub returns-clause-mended : goal.returns-clause-mended
returns-clause-mended c = one_of_two c.args.root.now
