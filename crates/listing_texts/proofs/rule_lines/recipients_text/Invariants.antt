use Rattle.std.proofs.Common.{◌≡◌, ◌++◌, drop}
use Rattle.std.specs.FinMap as map
use Rattle.listing_texts.specs.RuleLines.{rule_lines, recipients_listing}
use Rattle.listing_texts.proofs.rule_lines.recipients_text.Given as goal

abbrev pub invariant-loop-folder : goal.invariant-loop-folder
invariant-loop-folder l = l.text.items ++ rule_lines (drop l.folder-index (map.entries l.rules)) ≡ recipients_listing l.rules
