use Rattle.std.proofs.Common.{sym, subst, arith}
use Rattle.recipient_files.specs.Ids.{IsRecipients}
use Rattle.recipient_files.proofs.SetLemmas.{recipients_without}
use Rattle.recipient_files.proofs.recipients.Recipients.remove.Goals as goal

pub invariant_of-self : goal.invariant_of-self
invariant_of-self c =
    let is : IsRecipients c.self.inside.ids.items = c.self.invariant in
    let some = is.some in
    subst IsRecipients (sym c.take_out.ensures) (recipients_without c.args.id.now c.self.inside.ids.items is (omega (arith, some)))
