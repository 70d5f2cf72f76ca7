use Rattle.std.proofs.Common.{arith}
use Rattle.recipient_files.proofs.RecipientsLemmas.{copied_more, each_more}
use Rattle.recipient_files.proofs.recipients.copies_of.Goals as goal

pub loop-id-preserved : goal.loop-id-preserved
loop-id-preserved c =
    let more = c.in_ok-push.ensures.items in
    record {
      same = copied_more c.args.ids.now _ _ c.loop-id.id-index c.in_ok-copy.field-0 _ (omega arith) c.id-item.is c.in_ok-copy.ensures.same c.loop-id.invariant.same more;
      each = each_more _ _ c.in_ok-copy.field-0 c.loop-id.invariant.each c.in_ok-copy.ensures.good more;
    }
