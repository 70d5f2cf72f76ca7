use Rattle.std.proofs.Common.{◌≡◌, ◌++◌, drop}
use Rattle.recipient_files.specs.RuleText.{rule_text}
use Rattle.recipient_files.proofs.recipients.text_of.Given as goal

abbrev pub invariant-loop-id : goal.invariant-loop-id
invariant-loop-id l = l.bytes.items ++ rule_text (drop l.id-index l.ids) ≡ rule_text l.ids
