-- What a store found agrees with each state that its files stand for.
use Rattle.std.proofs.Common.{◌≡◌, ℕ, Bool, List, Option, Some, None, refl, ap, sym, ◌∙◌, subst}
use Rattle.std.proofs.Math.Logic.{∥∥₁_elim}
use Rattle.std.specs.Prelude.{◌↔◌, Contains, IsTrue}
use Rattle.std.specs.Coded.{Coded, Coded-set, code_by, coded×, coded_list, coded_bool, coded_ℕ}
use Rattle.std.specs.FinMap as map
use Rattle.gopass_base.specs.Text.{Text}
use Rattle.mount_table.specs.Names.{IsName}
use Rattle.mount_table.specs.FaultOf.{name_fault}
use Rattle.mount_table.specs.Mounts.{IsMountOf, IsTable, root_of}
use Rattle.mount_table.specs.declared.name.BadName.{BadName}
use Rattle.mount_table.proofs.FaultOfLemmas.{name_none, none_name}
use Rattle.mount_table.specs.declared.mounts.Row.{Row}
use Rattle.mount_table.specs.MountOf.{mount_of}
use Rattle.mount_table.proofs.MountLemmas.{one_row}
use Rattle.mount_table.proofs.MountOfLemmas.{mount_computed}
use Rattle.disk_model.specs.Files.{Files}
use Rattle.path_rules.specs.RuleMap.{RuleMap}
use Rattle.cipher_port.specs.Tool.{Opens}
use Rattle.store_state.specs.declared.opening.Found.{Found}
use Rattle.gopass_base.specs.Order.{IsRising, TextMap}
use Rattle.store_state.specs.State.{Cell, State, StandsFor, AreMounts, mounts_path}
use Rattle.store_state.specs.Opening.{IsFound}
use Rattle.store_state.specs.Agrees.{Agrees}
use Rattle.store_state.proofs.OpeningLemmas.{table_of}
use Rattle.store_state.proofs.StateLemmas.{one_state}
use Rattle.store_state.proofs.StandsLemmas.{found_state, found_stands, found_keys, found_mounts, found_rules, found_sizes, found_templates, found_strange, found_shadowed, found_folders}
use Rattle.store_state.proofs.KeyLemmas.{keys_rise}

row_code : Coded Row
row_code = code_by (Text × (Text × Bool)) (coded× (coded_list coded_ℕ) (coded× (coded_list coded_ℕ) coded_bool)) (λ row. (row.alias, (row.dir, row.git))) (λ t. record { alias = t.0; dir = t.1.0; git = t.1.1 }) (λ row. refl)

module _ (opens : Opens) (root : Text) (files : Files) (found : Found) (state : State) (is : ∥ IsFound root files found ∥₁) (stands : StandsFor opens root files state) where
  state_is : (here : IsFound root files found) → state ≡ found_state opens root files found here.table here
  state_is here = one_state opens root files state (found_state opens root files found here.table here) stands (found_stands opens root files found here.table here)

  -- the mounts of the state are those that were found
  pub mounts_agree : state.mounts ≡ found.mounts
  mounts_agree = ∥∥₁_elim is (Coded-set (coded_list row_code) state.mounts found.mounts) (λ here. ap (λ (s : State). s.mounts) (state_is here) ∙ found_mounts opens root files found here.table here)

  -- and so are the names of its secrets
  pub keys_agree : map.keys state.rows ≡ found.seen.names.items
  keys_agree = ∥∥₁_elim is (Coded-set (coded_list (coded_list coded_ℕ)) (map.keys state.rows) found.seen.names.items) (λ here. ap (λ (s : State). map.keys s.rows) (state_is here) ∙ found_keys opens root files found here.table here)

  -- and its rules
  pub rules_agree : state.rules ≡ found.rules
  rules_agree = ∥∥₁_elim is (Coded-set (map.code (coded_list coded_ℕ) (coded_list (coded_list coded_ℕ))) state.rules found.rules) (λ here. ap (λ (s : State). s.rules) (state_is here) ∙ found_rules opens root files found here.table here)

  -- and the numbers of files below the directories of its mounts
  pub sizes_agree : state.sizes ≡ found.counts.items
  sizes_agree = ∥∥₁_elim is (Coded-set (coded_list coded_ℕ) state.sizes found.counts.items) (λ here. ap (λ (s : State). s.sizes) (state_is here) ∙ found_sizes opens root files found here.table here)

  -- and the folders of its templates
  pub templates_agree : map.keys state.templates ≡ found.seen.templates.items
  templates_agree = ∥∥₁_elim is (Coded-set (coded_list (coded_list coded_ℕ)) (map.keys state.templates) found.seen.templates.items) (λ here. ap (λ (s : State). map.keys s.templates) (state_is here) ∙ found_templates opens root files found here.table here)

  -- and its strange and its shadowed paths
  pub strange_agrees : state.strange ≡ found.seen.strange.items
  strange_agrees = ∥∥₁_elim is (Coded-set (coded_list (coded_list coded_ℕ)) state.strange found.seen.strange.items) (λ here. ap (λ (s : State). s.strange) (state_is here) ∙ found_strange opens root files found here.table here)

  pub shadowed_agrees : state.shadowed ≡ found.seen.shadowed.items
  shadowed_agrees = ∥∥₁_elim is (Coded-set (coded_list (coded_list coded_ℕ)) state.shadowed found.seen.shadowed.items) (λ here. ap (λ (s : State). s.shadowed) (state_is here) ∙ found_shadowed opens root files found here.table here)

  -- and the folders of its rules
  pub folders_agree : map.keys state.rules ≡ found.seen.rules.items
  folders_agree = ∥∥₁_elim is (Coded-set (coded_list (coded_list coded_ℕ)) (map.keys state.rules) found.seen.rules.items) (λ here. ap (λ (s : State). map.keys s.rules) (state_is here) ∙ (ap (λ (rules : RuleMap). map.keys rules) (found_rules opens root files found here.table here) ∙ found_folders opens root files found here.table here))

  -- what was found is what the state has
  pub agrees : Agrees state found
  agrees = record {
    mounts = mounts_agree;
    rules = rules_agree;
    names = keys_agree;
    folders = folders_agree;
    templates = templates_agree;
    strange = strange_agrees;
    shadowed = shadowed_agrees;
    sizes = sizes_agree;
  }

  -- the row of a mount is the one that is computed
  pub row_agrees : (name : Text) (row : ℕ) → IsMountOf found.mounts name row → row ≡ mount_of found.mounts name
  row_agrees name row mount = ∥∥₁_elim is (Coded-set coded_ℕ row (mount_of found.mounts name)) (λ here. one_row root name found.mounts row (mount_of found.mounts name) here.table mount (mount_computed root name found.mounts here.table))

  pub table_agrees : IsTable (root_of found.mounts) found.mounts → IsTable root found.mounts
  table_agrees table = table_of root (files (mounts_path root)) found.mounts (subst (λ (mounts : List Row). AreMounts root (files (mounts_path root)) mounts) mounts_agree stands.mounts_are) table

-- what has a row is a name
pub row_named : (opens : Opens) (root : Text) (files : Files) (state : State) (name : Text) (cell : Cell) → StandsFor opens root files state → map.get state.rows name ≡ Some cell → IsName name
row_named opens root files state name cell stands is = by (name_fault name) refl
  where
    differs : {X : Type 0} (x : X) → None ≡ Some x → ⊥
    differs x e = cc

    by : (fault : Option BadName) → name_fault name ≡ fault → IsName name
    by None e = none_name name e
    by (Some bad) e = absurd (differs cell (sym (stands.secrets.no_row name (λ good. differs bad (sym (name_none name good) ∙ e))) ∙ is))

-- what a search of the names tells of the keys
pub among_keys : {X : Type 0} (rows : TextMap X) (names : List Text) (name : Text) (found : Bool) → map.keys rows ≡ names → (IsRising names → IsTrue found ↔ Contains names name) → IsTrue found ↔ Contains (map.keys rows) name
among_keys rows names name found same tells = subst (λ (keys : List Text). IsTrue found ↔ Contains keys name) (sym same) (tells (subst IsRising same (keys_rise rows)))

-- where a search of the names finds one that is not there, any two numbers are one
pub found_there : (root : Text) (files : Files) (found : Found) (names : List Text) (name : Text) (has : Bool) (m n : ℕ) → ∥ IsFound root files found ∥₁ → names ≡ found.seen.names.items → (IsRising names → IsTrue has ↔ Contains names name)
    → IsTrue has → ¬ Contains found.seen.names.items name → m ≡ n
found_there root files found names name has m n is same tells there out =
    ∥∥₁_elim is (Coded-set coded_ℕ m n) (λ here. absurd (out (subst (λ (l : List Text). Contains l name) same ((tells (subst IsRising (sym same) here.rising.names)).0 there))))
