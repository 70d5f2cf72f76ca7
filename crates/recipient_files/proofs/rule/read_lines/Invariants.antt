use Rattle.std.proofs.Common.{◌≡◌, ◌+◌, ◌≤◌, [], length}
use Rattle.gopass_base.specs.Lines.{pieces_of}
use Rattle.recipient_files.specs.RuleText.{ids_from, bad_from}
use Rattle.recipient_files.specs.RuleReads.{AreSomeIds}
use Rattle.recipient_files.proofs.rule.read_lines.Given as goal

abbrev pub invariant-loop-line : goal.invariant-loop-line
invariant-loop-line l = record {
  counted : l.number + length l.rest ≤ length l.bytes + 1;
  ids : AreSomeIds l.ids.items;
  same : ids_from l.ids.items (pieces_of l.rest) ≡ ids_from [] (pieces_of l.bytes);
  bad : bad_from l.number l.ids.items (pieces_of l.rest) ≡ bad_from 1 [] (pieces_of l.bytes);
}

abbrev pub decreases-loop-line : goal.decreases-loop-line
decreases-loop-line l = length l.rest
