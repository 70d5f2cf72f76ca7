use Rattle.std.proofs.Common.{length, ◌-◌, ◌≡◌, ◌≤◌, take}
use Rattle.io_ports.specs.Sink.{Took}
use Rattle.io_ports.proofs.sink.put_all.Given as goal

abbrev pub invariant-loop-done : goal.invariant-loop-done
invariant-loop-done g l = record {
  inside : l.done ≤ length l.bytes;
  taken : Took (g.O.Sink.meaning.held l.initial.sink) (g.O.Sink.meaning.held l.sink) (take l.done l.bytes);
  stays : g.O.Sink.meaning.faults l.sink ≡ g.O.Sink.meaning.faults l.initial.sink;
}

abbrev pub decreases-loop-done : goal.decreases-loop-done
decreases-loop-done g l = length l.bytes - l.done
