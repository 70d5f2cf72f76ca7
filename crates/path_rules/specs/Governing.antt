-- Which rule governs a secret.
use Rattle.std.specs.Prelude.{◌≡◌, ℕ, zero, suc, ◌<◌, ◌≤◌, nat_le, List, length, take, slice_index_or, [], Option, None, Some, if◌then◌else◌}
use Rattle.std.specs.Option.{option_or}
use Rattle.std.specs.List.{join_with_byte}
use Rattle.gopass_base.specs.Text.{Text}
use Rattle.gopass_base.specs.Parts.{parts}
use Rattle.mount_table.specs.NameFaults.{start_of}
use Rattle.mount_table.specs.Prefixes.{folder_parts, Holds}
use Rattle.mount_table.specs.Mounts.{row_at}
use Rattle.mount_table.specs.MountOf.{mount_of}
use Rattle.mount_table.specs.declared.mounts.Row.{Row}
use Rattle.recipient_files.specs.Ids.{Ids}
use Rattle.path_rules.specs.RuleMap.{RuleMap, rule_at, HasRule}

-- the folder holds the secret and has at least so many parts
pub record CanGovern (least : ℕ) (folder name : Text) : Type 0 where
  pub holds : Holds folder name
  pub deep : least ≤ length (folder_parts folder)

-- the ids are the rule of the longest folder that can govern the secret and has a rule
pub record IsLongestRule (rules : RuleMap) (least : ℕ) (name : Text) (ids : Ids) : Type 0 where
  pub folder : Text
  pub can : CanGovern least folder name
  pub ruled : rule_at rules folder ≡ Some ids
  pub longest : (other : Text) → CanGovern least other name → HasRule rules other → length (folder_parts other) ≤ length (folder_parts folder)

-- the rule that governs the secret among folders of at least so many parts; or that no such folder has one
abbrev pub Governs : RuleMap → (least : ℕ) → (name : Text) → Option Ids → Type 0
Governs rules least name None = (folder : Text) → CanGovern least folder name → rule_at rules folder ≡ None
Governs rules least name (Some ids) = IsLongestRule rules least name ids

-- a part of the name begins at this byte
pub record IsPartStart (name : Text) (at : ℕ) : Type 0 where
  pub number : ℕ
  pub inside : number < length (parts name)
  pub place : at ≡ start_of (parts name) number

-- ---- the same, computed

-- the folder of a name's first n parts; of none it is the root folder
abbrev pub front : ℕ → Text → Text
front n name = join_with_byte 47 (take n (parts name))

-- the rule of the longest of the name's fronts with at least `least` and fewer than so many parts
abbrev pub longest_rule : RuleMap → (least : ℕ) → (name : Text) → ℕ → Option Ids
longest_rule rules least name zero = None
longest_rule rules least name (suc n) = if nat_le least n then option_or (rule_at rules (front n name)) (longest_rule rules least name n) else None

-- the rule that governs the secret, among folders of at least so many parts
abbrev pub governing_below : RuleMap → (least : ℕ) → (name : Text) → Option Ids
governing_below rules least name = longest_rule rules least name (length (parts name))

-- how many parts the alias of the secret's mount has
abbrev pub alias_depth : List Row → Text → ℕ
alias_depth rows name = length (folder_parts (row_at rows (mount_of rows name)).alias)

-- the ids of the rule that governs the secret: no folder above the alias of its mount counts
abbrev pub governing_ids : RuleMap → List Row → (name : Text) → Option Ids
governing_ids rules rows name = governing_below rules (alias_depth rows name) name

-- ---- how the code finds it

-- the ids at an index of the list of sets, or none
abbrev pub IsSetAt : List Ids → Option ℕ → Option Ids → Type 0
IsSetAt sets None ids = ids ≡ None
IsSetAt sets (Some index) ids = (index < length sets) × (ids ≡ Some (slice_index_or sets index []))
