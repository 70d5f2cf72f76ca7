use Rattle.std.proofs.Common.{◌≡◌, ◌++◌, drop}
use Rattle.std.specs.List.{flat_map}
use Rattle.cipher_port.specs.StandinText.{to_line}
use Rattle.cipher_port.proofs.standin.push_ids.Given as goal

abbrev pub invariant-loop-id : goal.invariant-loop-id
invariant-loop-id l = l.text.items ++ flat_map to_line (drop l.id-index l.ids) ≡ l.fn.text.items ++ flat_map to_line l.ids
