use Rattle.gopass_base.proofs.OrderLemmas.{set_of_sorted}
use Rattle.recipient_files.proofs.RecipientsLemmas.{ids_of_sorted}
use Rattle.recipient_files.proofs.recipients.set_of.Goals as goal

pub returns-clause-set : goal.returns-clause-set
returns-clause-set c = set_of_sorted _ _ c.in_order.ensures.once

pub returns-clause-each : goal.returns-clause-each
returns-clause-each c = λ each. ids_of_sorted _ _ _ c.in_order.ensures.once.moved c.in_order.ensures.once.kept each
