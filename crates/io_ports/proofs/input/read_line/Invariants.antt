use Rattle.std.proofs.Common.{◌-◌, ◌≤◌, ◌≡◌, vec_len}
use Rattle.std.specs.Prelude.{None}
use Rattle.gopass_base.specs.Lines.{cut_at}
use Rattle.io_ports.specs.Told.{Told}
use Rattle.io_ports.specs.Source.{Came, Grew}
use Rattle.io_ports.proofs.input.read_line.Given as goal

abbrev pub invariant-loop-line : goal.invariant-loop-line
invariant-loop-line g l = record {
  inside : vec_len l.line ≤ l.max;
  whole : cut_at 10 l.line.items ≡ None;
  came : Told (Came l.line.items) (g.S.Source.meaning.left l.initial.input) (g.S.Source.meaning.left l.input);
  count : Grew (vec_len l.line) (g.S.Source.meaning.taken l.initial.input) (g.S.Source.meaning.taken l.input);
  goes_on : g.S.Source.meaning.ends l.input ≡ g.S.Source.meaning.ends l.initial.input;
  stays : g.S.Source.meaning.faults l.input ≡ g.S.Source.meaning.faults l.initial.input;
}

abbrev pub decreases-loop-line : goal.decreases-loop-line
decreases-loop-line g l = l.max - vec_len l.line
