-- What an edit means: the state with its entries made.
use Rattle.std.specs.Prelude.{◌≡◌, ℕ, ◌+◌, ◌-◌, ◌<◌, ◌≤◌, Bool, true, false, List, [], ◌∷◌, length, set, slice_index_or, is_some, nat_lt, Option, None, Some, option_map, if◌then◌else◌}
use Rattle.std.specs.List.{list_any}
use Rattle.std.specs.FinMap as map
use Rattle.gopass_base.specs.Text.{Text}
use Rattle.gopass_base.specs.Order.{TextMap}
use Rattle.mount_table.specs.MountOf.{mount_of}
use Rattle.mount_table.specs.declared.mounts.Row.{Row}
use Rattle.disk_model.specs.Files.{Files as DiskFiles}
use Rattle.recipient_files.specs.Ids.{Ids}
use Rattle.recipient_files.specs.RuleText.{rule_text}
use Rattle.path_rules.specs.RuleMap.{rule_at}
use Rattle.path_rules.specs.Limits.{most_rules}
use Rattle.cipher_port.specs.Tool.{Opens}
use Rattle.store_state.specs.declared.fault.Limit.{Limit}
use Rattle.store_state.specs.declared.fault.Limit.TheVariants.{Rules, Secrets, Files}
use Rattle.store_state.specs.Places.{folder_mount, rule_path, secret_path, template_path}
use Rattle.store_state.specs.State.{State, cell_of}
use Rattle.store_state.specs.Limits.{most_files, most_secrets}

-- what is to be: the sealed bytes of the file of a secret, the ids of the rule of a folder, the bytes of its template; or that
-- there is to be none
pub data Entry : Type 0 where
  OfSecret : (name : Text) → Option Text → Entry
  OfRule : (folder : Text) → Option Ids → Entry
  OfTemplate : (folder : Text) → Option Text → Entry

-- where the file of an entry lies, and what it has then
abbrev pub place : List Row → Entry → Text
place mounts (OfSecret name file) = secret_path mounts name
place mounts (OfRule folder ids) = rule_path mounts (folder_mount mounts folder) folder
place mounts (OfTemplate folder file) = template_path mounts (folder_mount mounts folder) folder

abbrev pub file_of_entry : Entry → Option Text
file_of_entry (OfSecret name file) = file
file_of_entry (OfRule folder ids) = option_map rule_text ids
file_of_entry (OfTemplate folder file) = file

-- the files of the entries
abbrev pub paths_in : List Row → List Entry → List Text
paths_in mounts [] = []
paths_in mounts (entry ∷ entries) = place mounts entry ∷ paths_in mounts entries

-- the file of each entry is as it is to be
abbrev pub AreWritten : List Row → List Entry → DiskFiles → Type 0
AreWritten mounts [] files = Unit {0}
AreWritten mounts (entry ∷ entries) files = (files (place mounts entry) ≡ file_of_entry entry) × AreWritten mounts entries files

-- ---- the state

-- whether the state has the secret, a rule of the folder, or a template of it
abbrev pub has_secret : State → Text → Bool
has_secret state name = is_some (map.get state.rows name)

abbrev pub has_rule : State → Text → Bool
has_rule state folder = is_some (rule_at state.rules folder)

abbrev pub has_template : State → Text → Bool
has_template state folder = is_some (map.get state.templates folder)

-- the map with this value of the key, or without one
abbrev pub with_row : {X : Type 0} → TextMap X → Text → Option X → TextMap X
with_row values key None = map.remove values key
with_row values key (Some value) = map.insert values key value

-- one file more in the k-th number
abbrev pub one_more : ℕ → List ℕ → List ℕ
one_more k sizes = set sizes k (slice_index_or sizes k 0 + 1)

-- the numbers of files, where a file below the k-th mount was there or not, and is there now or not
abbrev pub resized : (was is : Bool) → ℕ → List ℕ → List ℕ
resized true true k sizes = sizes
resized true false k sizes = set sizes k (slice_index_or sizes k 0 - 1)
resized false true k sizes = one_more k sizes
resized false false k sizes = sizes

-- the state with one entry made: all else is as it was
abbrev pub with_secret : Opens → Text → Option Text → State → State
with_secret opens name file state = record state {
  rows = with_row state.rows name (option_map (cell_of opens) file);
  sizes = resized (has_secret state name) (is_some file) (mount_of state.mounts name) state.sizes;
}

abbrev pub with_rule : Text → Option Ids → State → State
with_rule folder ids state = record state {
  rules = with_row state.rules folder ids;
  sizes = resized (has_rule state folder) (is_some ids) (folder_mount state.mounts folder) state.sizes;
}

abbrev pub with_template : Text → Option Text → State → State
with_template folder file state = record state {
  templates = with_row state.templates folder file;
  sizes = resized (has_template state folder) (is_some file) (folder_mount state.mounts folder) state.sizes;
}

abbrev pub with_entry : Opens → Entry → State → State
with_entry opens (OfSecret name file) state = with_secret opens name file state
with_entry opens (OfRule folder ids) state = with_rule folder ids state
with_entry opens (OfTemplate folder file) state = with_template folder file state

-- each entry is made, one after the other
abbrev pub edited : Opens → List Entry → State → State
edited opens [] state = state
edited opens (entry ∷ entries) state = edited opens entries (with_entry opens entry state)

-- a store in this state opens: no limit is passed
pub record IsWithin (state : State) : Type 0 where
  pub few_rules : map.len state.rules ≤ most_rules
  pub few_secrets : map.len state.rows ≤ most_secrets
  pub few_files : (k : ℕ) → k < length state.mounts → slice_index_or state.sizes k 0 ≤ most_files

-- the first limit that so many rules, secrets and files below each mount pass, in the order in which an opening refuses
abbrev pub limit_among : (rules secrets : ℕ) → (counts : List ℕ) → Option Limit
limit_among rules secrets counts =
    if list_any (λ count. nat_lt most_files count) counts then Some Files
    else if nat_lt most_rules rules then Some Rules
    else if nat_lt most_secrets secrets then Some Secrets
    else None

-- the first limit that a store in this state passes
abbrev pub limit_in : State → Option Limit
limit_in state = limit_among (map.len state.rules) (map.len state.rows) state.sizes

-- ---- entries about different things

abbrev pub AreOfOne : Entry → Entry → Type 0
AreOfOne (OfSecret a file) (OfSecret b other) = a ≡ b
AreOfOne (OfRule a ids) (OfRule b other) = a ≡ b
AreOfOne (OfTemplate a file) (OfTemplate b other) = a ≡ b
AreOfOne _ _ = ⊥

abbrev pub IsApartFrom : Entry → List Entry → Type 0
IsApartFrom entry [] = Unit {0}
IsApartFrom entry (other ∷ entries) = (¬ AreOfOne entry other) × IsApartFrom entry entries

-- no two of them are of one secret, of one rule or of one template
abbrev pub Differ : List Entry → Type 0
Differ [] = Unit {0}
Differ (entry ∷ entries) = IsApartFrom entry entries × Differ entries
