-- The rules that the rule files of a store tell.
use Rattle.std.specs.Prelude.{◌≡◌, ◌⊎◌, ℕ, ◌<◌, ◌≤◌, List, length, Contains, Option, None, Some, Result, Ok, Err}
use Rattle.std.specs.FinMap as map
use Rattle.gopass_base.specs.Text.{Text}
use Rattle.mount_table.specs.Mounts.{IsMountOfFolder}
use Rattle.mount_table.specs.declared.mounts.Row.{Row}
use Rattle.disk_model.specs.Files.{Files}
use Rattle.pending_journal.specs.Service.{without_service}
use Rattle.recipient_files.specs.Ids.{Ids}
use Rattle.recipient_files.specs.RuleText.{BadLine, IsRule, first_bad_line}
use Rattle.path_rules.specs.RuleMap.{RuleMap, rule_at}
use Rattle.store_state.specs.Limits.{most_rule_bytes}
use Rattle.store_state.specs.declared.fault.StoreFault.{StoreFault}
use Rattle.store_state.specs.declared.fault.StoreFault.TheVariants.{BadFile, Full, Disk, NoMemory}
use Rattle.store_state.specs.Places.{rule_path}

-- a rule file that reads: it is not too long, and its ids are this set
pub record IsRuleFile (bytes : Text) (ids : Ids) : Type 0 where
  pub short : length bytes ≤ most_rule_bytes
  pub rule : IsRule ids bytes

-- the rule of a folder, by what lies at its file
abbrev pub IsRuleOf : Option Text → Option Ids → Type 0
IsRuleOf None rule = rule ≡ None
IsRuleOf (Some bytes) (Some ids) = IsRuleFile bytes ids
IsRuleOf (Some bytes) None = ⊥

-- the first bad line of a rule file; 0 where it has more bytes than it may
abbrev pub IsBadRule : Text → ℕ → Type 0
IsBadRule bytes line =
    ((length bytes ≤ most_rule_bytes) × (bad : BadLine) × (first_bad_line bytes ≡ Some bad) × (line ≡ bad.line))
    ⊎ ((most_rule_bytes < length bytes) × (line ≡ 0))

-- the rule of a folder, by what lies at its file in its mount
abbrev pub IsRuleThere : (root : Text) → Files → List Row → (folder : Text) → Option Ids → Type 0
IsRuleThere root files mounts folder rule = (k : ℕ) × IsMountOfFolder mounts folder k × IsRuleOf (without_service root files (rule_path mounts k folder)) rule

-- the rule file of the folder is bad at this line
abbrev pub IsBadThere : (root : Text) → Files → List Row → (folder path : Text) → ℕ → Type 0
IsBadThere root files mounts folder path line =
    (k : ℕ) × IsMountOfFolder mounts folder k × (path ≡ rule_path mounts k folder) × (bytes : Text) × (without_service root files path ≡ Some bytes) × IsBadRule bytes line

-- what the bytes of the rule file under the path tell
abbrev pub TellsRule : (path bytes : Text) → Result Ids StoreFault → Type 0
TellsRule path bytes (Ok ids) = IsRule ids bytes
TellsRule path bytes (Err (BadFile other line)) = (other ≡ path) × (bad : BadLine) × (first_bad_line bytes ≡ Some bad) × (line ≡ bad.line)
TellsRule path bytes (Err NoMemory) = Unit {0}
TellsRule path bytes (Err Disk) = ⊥
TellsRule path bytes (Err (Full kind)) = ⊥

-- the rule of a folder, or its first bad line
abbrev pub ReadsRule : (root : Text) → Files → List Row → (folder : Text) → Result (Option Ids) StoreFault → Type 0
ReadsRule root files mounts folder (Ok rule) = IsRuleThere root files mounts folder rule
ReadsRule root files mounts folder (Err (BadFile path line)) = IsBadThere root files mounts folder path line
ReadsRule root files mounts folder (Err Disk) = Unit {0}
ReadsRule root files mounts folder (Err NoMemory) = Unit {0}
ReadsRule root files mounts folder (Err (Full kind)) = ⊥

-- the rules, with that of a folder where it has one
abbrev pub with_rule : RuleMap → Text → Option Ids → RuleMap
with_rule rules folder None = rules
with_rule rules folder (Some ids) = map.insert rules folder ids

-- the rule of a folder came to the rules, or its file is bad
abbrev pub AddsRule : (root : Text) → Files → List Row → (folder : Text) → (old new : RuleMap) → Result (Unit {0}) StoreFault → Type 0
AddsRule root files mounts folder old new (Ok done) = (rule : Option Ids) × IsRuleThere root files mounts folder rule × (new ≡ with_rule old folder rule)
AddsRule root files mounts folder old new (Err (BadFile path line)) = IsBadThere root files mounts folder path line
AddsRule root files mounts folder old new (Err Disk) = Unit {0}
AddsRule root files mounts folder old new (Err NoMemory) = Unit {0}
AddsRule root files mounts folder old new (Err (Full kind)) = ⊥

-- the rules are those of these folders, and no other folder has one
pub record AreRules (root : Text) (files : Files) (mounts : List Row) (folders : List Text) (rules : RuleMap) : Type 0 where
  pub each : (folder : Text) → Contains folders folder → IsRuleThere root files mounts folder (rule_at rules folder)
  pub others : (folder : Text) → ¬ Contains folders folder → rule_at rules folder ≡ None

-- the rules of these folders, or the first bad line of one of their files
abbrev pub ReadsRules : (root : Text) → Files → List Row → (folders : List Text) → Result RuleMap StoreFault → Type 0
ReadsRules root files mounts folders (Ok rules) = AreRules root files mounts folders rules
ReadsRules root files mounts folders (Err (BadFile path line)) = (folder : Text) × Contains folders folder × IsBadThere root files mounts folder path line
ReadsRules root files mounts folders (Err Disk) = Unit {0}
ReadsRules root files mounts folders (Err NoMemory) = Unit {0}
ReadsRules root files mounts folders (Err (Full kind)) = ⊥
