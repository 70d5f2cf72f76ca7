use Rattle.std.proofs.Common.{refl}
use Rattle.pending_journal.proofs.CostLemmas.{costs_is}
use Rattle.store_state.proofs.rule_files.rule_file.Goals as goal

pub returns-clause-costs : goal.returns-clause-costs
returns-clause-costs g c = costs_is refl (λ t. c.requires) c.read.ensures.costs
