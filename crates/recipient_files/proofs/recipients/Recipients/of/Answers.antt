use Rattle.std.proofs.Common.{rules, arith}
use Rattle.recipient_files.proofs.RecipientsLemmas.{recipients_of_set}
use Rattle.recipient_files.proofs.recipients.Recipients.of.Goals as goal

pub invariant_of-result : goal.invariant_of-result
invariant_of-result c = recipients_of_set _ c.args.ids.now (search rules) (search rules) (omega arith) (c.set_of-set.ensures.each c.in_ok-copies_of.ensures.each)
