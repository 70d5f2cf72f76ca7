use Rattle.std.proofs.Common.{◌-◌, ◌≡◌, ◌≤◌, vec_len}
use Rattle.io_ports.specs.Told.{Told}
use Rattle.io_ports.specs.Source.{Came, Grew}
use Rattle.io_ports.proofs.input.read_all.Given as goal

abbrev pub invariant-loop-bytes : goal.invariant-loop-bytes
invariant-loop-bytes g l = record {
  inside : vec_len l.bytes ≤ l.max;
  came : Told (Came l.bytes.items) (g.S.Source.meaning.left l.initial.input) (g.S.Source.meaning.left l.input);
  count : Grew (vec_len l.bytes) (g.S.Source.meaning.taken l.initial.input) (g.S.Source.meaning.taken l.input);
  goes_on : g.S.Source.meaning.ends l.input ≡ g.S.Source.meaning.ends l.initial.input;
  stays : g.S.Source.meaning.faults l.input ≡ g.S.Source.meaning.faults l.initial.input;
}

abbrev pub decreases-loop-bytes : goal.decreases-loop-bytes
decreases-loop-bytes g l = l.max - vec_len l.bytes
