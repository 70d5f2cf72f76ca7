use Rattle.std.proofs.Common.{rules, ◌≡◌, ◌+◌, ◌≤◌, length, take}
use Rattle.io_ports.specs.Told.{Told}
use Rattle.io_ports.specs.Source.{CameNext}
use Rattle.io_ports.proofs.InputLemmas.{all_long}
use Rattle.io_ports.proofs.input.read_all.Goals as goal

pub returns-then-count-room-clause-read : goal.returns-then-count-room-clause-read
returns-then-count-room-clause-read g c =
    let kept = c.loop-bytes.bytes.items in
    let count = c.in_ok-count.count in
    let into = c.take.new.into in
    let over : length kept + count ≡ c.args.max + 1 = search rules in
    let fits : count ≤ length into = search rules in
    let next : Told (CameNext (take count into)) (g.S.Source.meaning.left c.loop-bytes.input) (g.S.Source.meaning.left c.take.new.self) = search rules in
    all_long c.args.max count kept into _ _ _ over fits c.loop-bytes.invariant.came next
