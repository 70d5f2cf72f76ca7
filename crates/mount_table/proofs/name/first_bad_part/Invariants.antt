use Rattle.std.proofs.Common.{◌≡◌, ◌+◌, ◌<◌, ℕ, length, drop}
use Rattle.gopass_base.specs.Parts.{parts}
use Rattle.mount_table.specs.NameFaults.{span, start_of, IsGoodAt}
use Rattle.mount_table.proofs.name.first_bad_part.Given as goal

abbrev pub invariant-loop-part : goal.invariant-loop-part
invariant-loop-part l = record {
  counted : l.number ≡ length l.yielded;
  begun : l.at ≡ start_of (parts l.text) l.number;
  placed : l.at + span (drop l.number (parts l.text)) ≡ length l.text + 1;
  good : (k : ℕ) → k < l.number → IsGoodAt l.is_secret (parts l.text) k;
}
