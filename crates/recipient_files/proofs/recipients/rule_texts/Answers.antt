use Rattle.recipient_files.proofs.SetLemmas.{one_set}
use Rattle.recipient_files.proofs.WrittenLemmas.{written_again}
use Rattle.recipient_files.proofs.IdLemmas.{is_id_tells}
use Rattle.recipient_files.proofs.recipients.rule_texts.Goals as goal

pub returns-clause-written : goal.returns-clause-written
returns-clause-written c = written_again

pub returns-clause-one_set : goal.returns-clause-one_set
returns-clause-one_set c = λ set other text is also. one_set set other is.set_of.rising also.set_of.rising (λ id. (
  λ h. (also.set_of.same id).1 ((is.set_of.same id).0 h),
  λ h. (is.set_of.same id).1 ((also.set_of.same id).0 h),
))

pub returns-clause-ids : goal.returns-clause-ids
returns-clause-ids c = λ text. ((is_id_tells text).0, (is_id_tells text).1)
