-- Which secrets a change of rules is about.
use Rattle.std.specs.Prelude.{Bool, not, bytes_eq, filter, List, Option}
use Rattle.std.specs.Option.{option_eq}
use Rattle.std.specs.Cmp.Lexicographic.{pointwise}
use Rattle.gopass_base.specs.Text.{Text}
use Rattle.mount_table.specs.declared.mounts.Row.{Row}
use Rattle.recipient_files.specs.Ids.{Ids}
use Rattle.path_rules.specs.RuleMap.{RuleMap}
use Rattle.path_rules.specs.Governing.{governing_ids}

-- both have no rule, or rules of the same ids
abbrev pub same_rule : Option Ids → Option Ids → Bool
same_rule = option_eq (pointwise bytes_eq)

-- whether the rule that governs the secret is another one
abbrev pub is_affected : (before after : RuleMap) → List Row → Text → Bool
is_affected before after rows name = not (same_rule (governing_ids before rows name) (governing_ids after rows name))

-- the names of the secrets that the change is about, in their order
abbrev pub affected_names : (before after : RuleMap) → List Row → List Text → List Text
affected_names before after rows names = filter (λ name. is_affected before after rows name) names
