use Rattle.pending_journal.proofs.PlanLemmas.{one_plan, one_meaning}
use Rattle.pending_journal.proofs.laws.one_meaning.Goals as goal

pub returns-clause-plans : goal.returns-clause-plans
returns-clause-plans c = one_plan c.args.root.now

pub returns-clause-files : goal.returns-clause-files
returns-clause-files c = one_meaning c.args.root.now
