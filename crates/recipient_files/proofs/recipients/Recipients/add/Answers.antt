use Rattle.std.proofs.Common.{◌≤◌, ◌++◌, [], ◌∷◌, length, rules, arith}
use Rattle.gopass_base.specs.Order.{IsSetOf}
use Rattle.recipient_files.specs.Ids.{IsRecipients}
use Rattle.recipient_files.proofs.SetLemmas.{recipients_with}
use Rattle.recipient_files.proofs.recipients.Recipients.add.Goals as goal

pub invariant_of-self : goal.invariant_of-self
invariant_of-self c =
    let is : IsRecipients c.self.inside.ids.items = c.self.invariant in
    let few = is.few in
    let set : IsSetOf c.set_of.result.items (c.self.inside.ids.items ++ c.args.id.now ∷ []) = search rules in
    let fewer : length c.set_of.result.items ≤ length (c.self.inside.ids.items ++ c.args.id.now ∷ []) = search rules in
    recipients_with c.args.id.now c.self.inside.ids.items c.set_of.result.items set (omega (arith, few)) fewer (c.set_of.ensures.each c.in_ok-ids.ensures.each)
