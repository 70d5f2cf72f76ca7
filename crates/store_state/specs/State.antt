-- The state that the files of a store stand for.
use Rattle.std.specs.Prelude.{◌≡◌, ◌⊎◌, ◌<◌, ◌≤◌, ℕ, Bool, ◌||◌, List, [], ◌∷◌, length, slice_index_or, Option, None, Some, option_map, IsTrue, IsFalse}
use Rattle.std.specs.FinMap as map
use Rattle.gopass_base.specs.Text.{Text}
use Rattle.gopass_base.specs.Order.{TextMap, IsRising}
use Rattle.mount_table.specs.Names.{IsName}
use Rattle.gopass_base.specs.Paths.{path_in, service_text}
use Rattle.mount_table.specs.Mounts.{IsTable, new_row}
use Rattle.mount_table.specs.MountsText.{table_text}
use Rattle.mount_table.specs.declared.mounts.Row.{Row}
use Rattle.gopass_base.specs.declared.service.ServiceFile.TheVariants.{Mounts, Pending}
use Rattle.disk_model.specs.Files.{Files}
use Rattle.disk_model.specs.Listing.{has_git}
use Rattle.pending_journal.specs.Service.{is_service}
use Rattle.cipher_port.specs.Tool.{Content, Opens}
use Rattle.path_rules.specs.RuleMap.{RuleMap, rule_at}
use Rattle.path_rules.specs.Limits.{most_rules}
use Rattle.store_state.specs.Limits.{most_secrets}
use Rattle.store_state.specs.Places.{secret_path, rule_path, template_path, IsFolderOf}
use Rattle.store_state.specs.RuleFiles.{IsRuleOf}
use Rattle.store_state.specs.Found.{GivesStrange, GivesShadowed}
use Rattle.store_state.specs.Survey.{IsCountOf, IsOfFiles}

-- what the file of a secret holds: sealed content, or bytes that are not sealed
pub data Cell : Type 0 where
  Sealed : Content → Cell
  Broken : Text → Cell

abbrev pub cell_with : Option Content → Text → Cell
cell_with (Some content) bytes = Sealed content
cell_with None bytes = Broken bytes

abbrev pub cell_of : Opens → Text → Cell
cell_of opens bytes = cell_with (opens bytes) bytes

-- the mounts; the rules, each under its folder; the secrets, each under its name; the templates, each under its folder; how
-- many files lie below the directory of each mount; the bytes at each other path of the store; and of these paths those that
-- are strange, and those whose secret, rule or template belongs to another mount
pub record State : Type 0 where
  pub mounts : List Row
  pub rules : RuleMap
  pub rows : TextMap Cell
  pub templates : TextMap Text
  pub sizes : List ℕ
  pub rest : Files
  pub strange : List Text
  pub shadowed : List Text

-- the mounts that a mounts file tells, or the root's row alone where there is none
abbrev pub AreMounts : (root : Text) → Option Text → List Row → Type 0
AreMounts root None mounts = mounts ≡ new_row [] root ∷ []
AreMounts root (Some bytes) mounts = IsTable root mounts × (bytes ≡ table_text mounts)

abbrev pub mounts_path : Text → Text
mounts_path root = path_in root (service_text Mounts)

abbrev pub pending_path : Text → Text
pending_path root = path_in root (service_text Pending)

-- so many files lie below the directories of the mounts
pub record AreSizes (root : Text) (files : Files) (mounts : List Row) (sizes : List ℕ) : Type 0 where
  pub as_many : length sizes ≡ length mounts
  pub each : (k : ℕ) → k < length mounts → IsCountOf root files mounts k (slice_index_or sizes k 0)

-- the path is a part of the state: the file of the mounts, or that of a secret, a rule or a template
abbrev pub IsPlaced : (root : Text) → List Row → Text → Type 0
IsPlaced root mounts path =
    (path ≡ mounts_path root)
    ⊎ (((name : Text) × IsName name × (path ≡ secret_path mounts name))
    ⊎ ((folder : Text) × (k : ℕ) × IsFolderOf mounts k folder × ((path ≡ rule_path mounts k folder) ⊎ (path ≡ template_path mounts k folder))))

-- the path is none of a store: it is one of the vault's own, or has a part `.git`
abbrev pub is_outside : (root path : Text) → Bool
is_outside root path = is_service root path || has_git path

-- each folder has the rule that its rule file tells, and nothing else has one
pub record RulesStand (files : Files) (state : State) : Type 0 where
  pub rule : (folder : Text) (k : ℕ) → IsFolderOf state.mounts k folder → IsRuleOf (files (rule_path state.mounts k folder)) (rule_at state.rules folder)
  pub no_rule : (folder : Text) → ¬ ((k : ℕ) × IsFolderOf state.mounts k folder) → rule_at state.rules folder ≡ None

-- each name has what lies at the file of its secret, and nothing else has a row
pub record SecretsStand (opens : Opens) (files : Files) (state : State) : Type 0 where
  pub row : (name : Text) → IsName name → map.get state.rows name ≡ option_map (cell_of opens) (files (secret_path state.mounts name))
  pub no_row : (name : Text) → ¬ IsName name → map.get state.rows name ≡ None

-- each folder has what lies at the file of its template, and nothing else has one
pub record TemplatesStand (files : Files) (state : State) : Type 0 where
  pub template : (folder : Text) (k : ℕ) → IsFolderOf state.mounts k folder → map.get state.templates folder ≡ files (template_path state.mounts k folder)
  pub no_template : (folder : Text) → ¬ ((k : ℕ) × IsFolderOf state.mounts k folder) → map.get state.templates folder ≡ None

-- each other path of the store has what lies there; what has a place in the state or is none of the store has nothing
pub record RestStands (root : Text) (files : Files) (state : State) : Type 0 where
  pub owned : (path : Text) → IsPlaced root state.mounts path → state.rest path ≡ None
  pub outside : (path : Text) → IsTrue (is_outside root path) → state.rest path ≡ None
  pub other : (path : Text) → ¬ IsPlaced root state.mounts path → IsFalse (is_outside root path) → state.rest path ≡ files path

-- the paths below the mounts that are strange, and those that are shadowed, by their bytes
pub record ApartStand (root : Text) (files : Files) (state : State) : Type 0 where
  pub strange : IsOfFiles GivesStrange root files state.mounts (length state.mounts) state.strange
  pub strange_rise : IsRising state.strange
  pub shadowed : IsOfFiles GivesShadowed root files state.mounts (length state.mounts) state.shadowed
  pub shadowed_rise : IsRising state.shadowed

-- the store opens: it has no pending file, and not too many rules or secrets
pub record KeepsLimits (root : Text) (files : Files) (state : State) : Type 0 where
  pub no_pending : files (pending_path root) ≡ None
  pub few_rules : map.len state.rules ≤ most_rules
  pub few_secrets : map.len state.rows ≤ most_secrets

-- the files stand for the state: its mounts are those of the mounts file, and so are its other parts by what lies there;
-- the numbers of files are those of its mounts, and it is a state of a store that opens
pub record StandsFor (opens : Opens) (root : Text) (files : Files) (state : State) : Type 0 where
  pub mounts_are : AreMounts root (files (mounts_path root)) state.mounts
  pub rules : RulesStand files state
  pub secrets : SecretsStand opens files state
  pub templates : TemplatesStand files state
  pub sizes_are : AreSizes root files state.mounts state.sizes
  pub rest : RestStands root files state
  pub apart : ApartStand root files state
  pub limits : KeepsLimits root files state
