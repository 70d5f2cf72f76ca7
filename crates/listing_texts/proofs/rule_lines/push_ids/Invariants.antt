use Rattle.std.proofs.Common.{◌≡◌, ◌++◌, drop}
use Rattle.listing_texts.specs.RuleLines.{id_lines}
use Rattle.listing_texts.proofs.rule_lines.push_ids.Given as goal

abbrev pub invariant-loop-id : goal.invariant-loop-id
invariant-loop-id l = l.text.items ++ id_lines (drop l.id-index l.ids) ≡ l.fn.text.items ++ id_lines l.ids
