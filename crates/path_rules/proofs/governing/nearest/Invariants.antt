use Rattle.std.proofs.Common.{◌≡◌, ◌+◌, ◌<◌, ℕ, length, drop}
use Rattle.gopass_base.specs.Parts.{parts}
use Rattle.mount_table.specs.NameFaults.{span, start_of}
use Rattle.path_rules.specs.RuleMap.{map_of}
use Rattle.path_rules.specs.Governing.{IsSetAt, longest_rule}
use Rattle.path_rules.proofs.governing.nearest.Given as goal

abbrev pub invariant-loop-part : goal.invariant-loop-part
invariant-loop-part l = record {
  begun : l.at ≡ start_of (parts l.text) (length l.yielded);
  placed : l.at + span (drop (length l.yielded) (parts l.text)) ≡ length l.text + 1;
  so_far : (least : ℕ) → least < length (parts l.text) → l.from ≡ start_of (parts l.text) least → IsSetAt l.sets l.nearest (longest_rule (map_of l.folders l.sets) least l.text (length l.yielded));
}
