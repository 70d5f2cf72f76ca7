use Rattle.std.proofs.Common.{refl, ap, ◌∙◌}
use Rattle.pending_journal.specs.Service.{is_service}
use Rattle.pending_journal.proofs.CostLemmas.{costs_is}
use Rattle.store_state.proofs.OpeningLemmas.{pending_plain}
use Rattle.store_state.proofs.opening.pending_file.Goals as goal

pub returns-clause-costs : goal.returns-clause-costs
returns-clause-costs g c = costs_is refl (λ t. ap (is_service c.args.vault.now.root) c.requires.pending_is ∙ pending_plain c.args.vault.now.root) c.read.ensures.costs
