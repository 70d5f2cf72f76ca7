-- What is answered where a rule comes or goes.
use Rattle.std.specs.Prelude.{◌≡◌, ◌⊎◌, ◌<◌, ◌≤◌, None, Some, Result, Ok, Err}
use Rattle.std.specs.FinMap as map
use Rattle.gopass_base.specs.Text.{Text}
use Rattle.recipient_files.specs.Ids.{Ids}
use Rattle.path_rules.specs.Limits.{most_rules}
use Rattle.path_rules.specs.RuleMap.{RuleMap, rule_at, HasRule}
use Rattle.path_rules.specs.declared.rules.RulesFault.{RulesFault}
use Rattle.path_rules.specs.declared.rules.RulesFault.TheVariants.{Full, NoMemory}
use Rattle.path_rules.specs.declared.rules.Absent.{Absent}

-- the folder has a rule, or there is room for one more
abbrev pub HasRoom : RuleMap → Text → Type 0
HasRoom rules folder = HasRule rules folder ⊎ (map.len rules < most_rules)

-- the folder gets the rule, and no other folder's changes; all stay as they are where no room is left, and where there
-- is no memory
abbrev pub SetsRule : Text → Ids → (old new : RuleMap) → Result (Unit {0}) RulesFault → Type 0
SetsRule folder ids old new (Ok done) = HasRoom old folder × (new ≡ map.insert old folder ids)
SetsRule folder ids old new (Err Full) = (rule_at old folder ≡ None) × (most_rules ≤ map.len old) × (new ≡ old)
SetsRule folder ids old new (Err NoMemory) = HasRoom old folder × (new ≡ old)

-- the folder's rule goes and is handed over, and no other folder's changes; all stay where it has none
abbrev pub UnsetsRule : Text → (old new : RuleMap) → Result Ids Absent → Type 0
UnsetsRule folder old new (Ok ids) = (rule_at old folder ≡ Some ids) × (new ≡ map.remove old folder)
UnsetsRule folder old new (Err absent) = (rule_at old folder ≡ None) × (new ≡ old)
