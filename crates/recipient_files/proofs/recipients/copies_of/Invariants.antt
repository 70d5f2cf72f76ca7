use Rattle.std.proofs.Common.{◌≡◌, take, All}
use Rattle.recipient_files.specs.Ids.{IsId}
use Rattle.recipient_files.proofs.recipients.copies_of.Given as goal

abbrev pub invariant-loop-id : goal.invariant-loop-id
invariant-loop-id l = record {
  same : l.copies.items ≡ take l.id-index l.ids;
  each : All IsId l.copies.items;
}
