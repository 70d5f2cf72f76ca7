-- What the readers of a rule file answer.
use Rattle.std.specs.Prelude.{◌≡◌, ◌≤◌, length, All, Option, Some, None, Result, Ok, Err}
use Rattle.recipient_files.specs.Ids.{Ids, IsId, most_ids}
use Rattle.recipient_files.specs.RuleText.{BadLine, bad_at}
use Rattle.recipient_files.specs.declared.rule.RuleKind.{RuleKind}
use Rattle.recipient_files.specs.declared.rule.RuleFault.{RuleFault}
use Rattle.recipient_files.specs.declared.rule.RuleFault.TheVariants as rule
use Rattle.recipient_files.specs.declared.rule.LineFault.{LineFault}
use Rattle.recipient_files.specs.declared.rule.LineFault.TheVariants as line

-- a value for which this holds, or the first bad line; want of memory may stand for both
abbrev pub ReadsRuleText : {X : Type 0} → (X → Type 0) → Option BadLine → Result X RuleFault → Type 0
ReadsRuleText Is bad (Ok x) = (bad ≡ None) × Is x
ReadsRuleText Is bad (Err (rule.Bad number kind)) = bad ≡ Some (bad_at number kind)
ReadsRuleText Is bad (Err rule.NoMemory) = Unit {0}

-- the same of one line, whose number is not known yet
abbrev pub ReadsIdLine : {X : Type 0} → (X → Type 0) → Option RuleKind → Result X LineFault → Type 0
ReadsIdLine Is bad (Ok x) = (bad ≡ None) × Is x
ReadsIdLine Is bad (Err (line.Bad kind)) = bad ≡ Some kind
ReadsIdLine Is bad (Err line.NoMemory) = Unit {0}

-- ids read so far: at most 64
pub record AreSomeIds (ids : Ids) : Type 0 where
  pub few : length ids ≤ most_ids
  pub each : All IsId ids
