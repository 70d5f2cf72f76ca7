use Rattle.std.proofs.Common.{◌≡◌, [], length}
use Rattle.gopass_base.specs.Lines.{pieces_of}
use Rattle.cipher_port.specs.Standin.{from_recipients}
use Rattle.cipher_port.specs.StandinReads.{IsSoFar}
use Rattle.cipher_port.proofs.standin.read_lines.Given as goal

abbrev pub invariant-loop-line : goal.invariant-loop-line
invariant-loop-line l = record {
  ids : IsSoFar l.ids.items;
  rest : from_recipients l.ids.items (pieces_of l.rest) ≡ from_recipients [] (pieces_of l.lines);
}

abbrev pub decreases-loop-line : goal.decreases-loop-line
decreases-loop-line l = length l.rest
