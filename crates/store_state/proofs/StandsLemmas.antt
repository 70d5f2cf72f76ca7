-- The files of a store that opens stand for a state.
use Rattle.std.proofs.Common.{◌≡◌, inl, inr, ℕ, ◌<◌, ◌≤◌, Bool, true, false, ◌||◌, List, ◌∷◌, ◌++◌, length, Option, Some, None, if◌then◌else◌, refl, ap, sym, ◌∙◌, subst, arith}
use Rattle.std.specs.Prelude.{Contains, option_map, map as each}
use Rattle.std.specs.FinMap as map
use Rattle.std.specs.FinMap.Entries.{find}
use Rattle.std.specs.Ordering.{nat_cmp}
use Rattle.std.specs.Cmp.Lexicographic.{slice_cmp}
use Rattle.std.proofs.lemmas.Bool.{true≢false}
use Rattle.std.proofs.lemmas.List.Elements.{Contains-append_left, Contains-append_right, Contains-append_cases}
use Rattle.gopass_base.specs.Text.{Text, is_among}
use Rattle.gopass_base.proofs.ListLemmas.{later as behind, first_or}
use Rattle.mount_table.specs.Names.{IsName}
use Rattle.mount_table.specs.Mounts.{IsTable}
use Rattle.disk_model.specs.Files.{Files}
use Rattle.pending_journal.specs.Service.{without_service}
use Rattle.cipher_port.specs.Tool.{Opens}
use Rattle.recipient_files.specs.Ids.{Ids}
use Rattle.recipient_files.proofs.SetLemmas.{is_among_tells, one_set}
use Rattle.store_state.specs.declared.kind.Kind.{Kind}
use Rattle.store_state.specs.declared.kind.Kind.TheVariants.{Rule, Template}
use Rattle.store_state.specs.declared.opening.Found.{Found}
use Rattle.store_state.specs.Places.{IsFolderOf, rule_path, secret_path, template_path}
use Rattle.path_rules.specs.RuleMap.{RuleMap, rule_at}
use Rattle.store_state.specs.RuleFiles.{IsRuleOf}
use Rattle.store_state.proofs.RuleLemmas.{path_of_rule, folder_of_rule, rule_lies_as, rule_lies_in, rule_shown, rule_stays}
use Rattle.store_state.specs.Found.{LiesAs}
use Rattle.store_state.specs.Tree.{tree_files}
use Rattle.store_state.specs.State.{Cell, State, StandsFor, IsPlaced, cell_of, is_outside, mounts_path}
use Rattle.store_state.specs.Opening.{IsFound}
use Rattle.store_state.specs.Agrees.{Agrees}
use Rattle.store_state.proofs.KindLemmas.{one_folder_row}
use Rattle.store_state.proofs.TableLemmas.{finds, keys_tabled, sorted_tabled, tabled, values_of, value_there, key_of_value}
use Rattle.store_state.proofs.KeyLemmas.{few_keys, key_there, keys_rise, length-keys, row_there}
use Rattle.store_state.proofs.NameLemmas.{names_found}
use Rattle.store_state.proofs.TemplateLemmas.{path_of_template, folder_of_template, template_lies_as, template_lies_in, template_stays}

-- ---- the state of what was found

module _ (opens : Opens) (root : Text) (files : Files) (found : Found) (table : IsTable root found.mounts) (is : IsFound root files found) where
  cell_at : (name : Text) → Contains found.seen.names.items name → Cell
  cell_at name has = cell_of opens (((names_found root files found table is name).0 has).1.0)

  bytes_at : (folder : Text) → Contains found.seen.templates.items folder → Text
  bytes_at folder has = ((is.survey.found.templates folder).0 has).5.0

  path_at : (folder : Text) → Contains found.seen.templates.items folder → Text
  path_at folder has = ((is.survey.found.templates folder).0 has).1

  -- what is known of the template of a folder that has one
  record IsTemplateAt (folder bytes path : Text) : Type 0 where
    row : ℕ
    inside : row < length found.mounts
    own : IsFolderOf found.mounts row folder
    path_is : path ≡ template_path found.mounts row folder
    there : files path ≡ Some bytes

  template_at : (folder : Text) (has : Contains found.seen.templates.items folder) → IsTemplateAt folder (bytes_at folder has) (path_at folder has)
  unfolding bytes_at path_at
  template_at folder has =
      let t = (is.survey.found.templates folder).0 has in
      let lies = subst (λ (w : Kind). LiesAs found.mounts t.0 w t.1) t.7 t.6 in
      let own = folder_of_template found.mounts t.0 t.1 folder lies in
      let same = path_of_template found.mounts t.0 t.1 folder lies in
      record {
        row = t.0;
        inside = t.3;
        own = own;
        path_is = same;
        there = ap files same ∙ (sym (template_stays root files found.mounts t.0 folder table own) ∙ (ap (tree_files root files) (sym same) ∙ t.5.1));
      }

  has_template : (folder bytes : Text) (k : ℕ) → IsFolderOf found.mounts k folder → files (template_path found.mounts k folder) ≡ Some bytes → Contains found.seen.templates.items folder
  has_template folder bytes k own there = (is.survey.found.templates folder).1 (
    k,
    template_path found.mounts k folder,
    Template folder,
    own.1.inside,
    template_lies_in found.mounts k folder own,
    (bytes, template_stays root files found.mounts k folder table own ∙ there),
    template_lies_as found.mounts k folder own,
    refl,
  )

  rule_path_at : (folder : Text) → Contains found.seen.rules.items folder → Text
  rule_path_at folder has = ((is.survey.found.rules folder).0 has).1

  -- where the rule of a folder lies that has one
  record IsRuleAt (folder path : Text) : Type 0 where
    row : ℕ
    inside : row < length found.mounts
    own : IsFolderOf found.mounts row folder
    path_is : path ≡ rule_path found.mounts row folder

  rule_found_at : (folder : Text) (has : Contains found.seen.rules.items folder) → IsRuleAt folder (rule_path_at folder has)
  unfolding rule_path_at
  rule_found_at folder has =
      let t = (is.survey.found.rules folder).0 has in
      let lies = subst (λ (w : Kind). LiesAs found.mounts t.0 w t.1) t.7 t.6 in
      record { row = t.0; inside = t.3; own = folder_of_rule found.mounts t.0 t.1 folder lies; path_is = path_of_rule found.mounts t.0 t.1 folder lies }

  has_rule : (folder bytes : Text) (k : ℕ) → IsFolderOf found.mounts k folder → files (rule_path found.mounts k folder) ≡ Some bytes → Contains found.seen.rules.items folder
  has_rule folder bytes k own there = (is.survey.found.rules folder).1 (
    k,
    rule_path found.mounts k folder,
    Rule folder,
    own.1.inside,
    rule_lies_in found.mounts k folder own,
    (bytes, rule_stays root files found.mounts k folder table own ∙ there),
    rule_lies_as found.mounts k folder own,
    refl,
  )

  -- the paths of what was found
  owned_paths : List Text
  owned_paths = mounts_path root ∷ (values_of found.seen.names.items (λ name has. secret_path found.mounts name) ++ (values_of found.seen.rules.items rule_path_at ++ values_of found.seen.templates.items path_at))

  rest_at : Files
  rest_at path = if is_outside root path || is_among owned_paths path then None else files path

  pub found_state : State
  found_state = record {
    mounts = found.mounts;
    rules = found.rules;
    rows = map.from_sorted (tabled found.seen.names.items cell_at);
    templates = map.from_sorted (tabled found.seen.templates.items bytes_at);
    sizes = found.counts.items;
    rest = rest_at;
    strange = found.seen.strange.items;
    shadowed = found.seen.shadowed.items;
  }

  by_none : (file : Option Text) → ((bytes : Text) → file ≡ Some bytes → ⊥) → file ≡ None
  by_none None h = refl
  by_none (Some bytes) h = absurd (h bytes refl)

  ruled : (folder : Text) (k : ℕ) (among : Bool) → IsFolderOf found.mounts k folder → is_among found.seen.rules.items folder ≡ among → IsRuleOf (files (rule_path found.mounts k folder)) (rule_at found.rules folder)
  ruled folder k true own e =
      let (j, here, there) = is.rules_are.each folder ((is_among_tells found.seen.rules.items folder).0 e) in
      let same : j ≡ k = one_folder_row root folder found.mounts j k table here own.1 in
      subst (λ file. IsRuleOf file (rule_at found.rules folder)) (ap (λ n. without_service root files (rule_path found.mounts n folder)) same ∙ rule_shown root files found.mounts k folder table own) there
  ruled folder k false own e =
      let out : Contains found.seen.rules.items folder → ⊥ = λ has. true≢false (sym ((is_among_tells found.seen.rules.items folder).1 has) ∙ e) in
      let none = by_none (files (rule_path found.mounts k folder)) (λ bytes there. out (has_rule folder bytes k own there)) in
      subst (λ file. IsRuleOf file (rule_at found.rules folder)) (sym none) (is.rules_are.others folder out)

  no_rule_is : (folder : Text) → ¬ ((k : ℕ) × IsFolderOf found.mounts k folder) → rule_at found.rules folder ≡ None
  no_rule_is folder other = is.rules_are.others folder (λ has. (let t = rule_found_at folder has in other (t.row, t.own)))

  row_is : (name : Text) → IsName name → find (slice_cmp nat_cmp) name (tabled found.seen.names.items cell_at) ≡ option_map (cell_of opens) (files (secret_path found.mounts name))
  unfolding cell_at
  row_is name good = elim (finds found.seen.names.items cell_at name) [
    | inl (has, e) ↦ e ∙ sym (ap (option_map (cell_of opens)) ((names_found root files found table is name).0 has).1.1)
    | inr (none, e) ↦ e ∙ sym (ap (option_map (cell_of opens)) (by_none (files (secret_path found.mounts name)) (λ bytes there. none ((names_found root files found table is name).1 (good, (bytes, there))))))
  ]

  no_row_is : (name : Text) → ¬ IsName name → find (slice_cmp nat_cmp) name (tabled found.seen.names.items cell_at) ≡ None
  no_row_is name other = elim (finds found.seen.names.items cell_at name) [
    | inl (has, e) ↦ absurd (other ((names_found root files found table is name).0 has).0)
    | inr (none, e) ↦ e
  ]

  template_is : (folder : Text) (k : ℕ) → IsFolderOf found.mounts k folder → find (slice_cmp nat_cmp) folder (tabled found.seen.templates.items bytes_at) ≡ files (template_path found.mounts k folder)
  template_is folder k own = elim (finds found.seen.templates.items bytes_at folder) [
    | inl (has, e) ↦ (let t = template_at folder has in
        let same : t.row ≡ k = one_folder_row root folder found.mounts t.row k table t.own.1 own.1 in
        e ∙ sym (ap (λ n. files (template_path found.mounts n folder)) (sym same) ∙ (ap files (sym t.path_is) ∙ t.there)))
    | inr (none, e) ↦ e ∙ sym (by_none (files (template_path found.mounts k folder)) (λ bytes there. none (has_template folder bytes k own there)))
  ]

  no_template_is : (folder : Text) → ¬ ((k : ℕ) × IsFolderOf found.mounts k folder) → find (slice_cmp nat_cmp) folder (tabled found.seen.templates.items bytes_at) ≡ None
  no_template_is folder other = elim (finds found.seen.templates.items bytes_at folder) [
    | inl (has, e) ↦ (let t = template_at folder has in absurd (other (t.row, t.own)))
    | inr (none, e) ↦ e
  ]

  -- each path with a file that is owned is among them, and each of them is owned
  owned_listed : (path bytes : Text) → IsPlaced root found.mounts path → files path ≡ Some bytes → Contains owned_paths path
  unfolding owned_paths
  owned_listed path bytes (inl mounts_file) there = (0, omega arith, sym mounts_file)
  owned_listed path bytes (inr (inl (name, good, same))) there =
      let names = values_of found.seen.names.items (λ name has. secret_path found.mounts name) in
      let rules = values_of found.seen.rules.items rule_path_at in
      let templates = values_of found.seen.templates.items path_at in
      let has = (names_found root files found table is name).1 (good, (bytes, ap files (sym same) ∙ there)) in
      let listed = (value_there found.seen.names.items (λ name has. secret_path found.mounts name) name has).1 in
      behind (mounts_path root) (names ++ (rules ++ templates)) path (Contains-append_left names (rules ++ templates) path (subst (Contains names) (sym same) listed))
  owned_listed path bytes (inr (inr (folder, k, own, inl same))) there =
      let names = values_of found.seen.names.items (λ name has. secret_path found.mounts name) in
      let rules = values_of found.seen.rules.items rule_path_at in
      let templates = values_of found.seen.templates.items path_at in
      let has = has_rule folder bytes k own (ap files (sym same) ∙ there) in
      let (there_has, listed) = value_there found.seen.rules.items rule_path_at folder has in
      let t = rule_found_at folder there_has in
      let row : t.row ≡ k = one_folder_row root folder found.mounts t.row k table t.own.1 own.1 in
      let path_same : rule_path_at folder there_has ≡ path = t.path_is ∙ (ap (λ n. rule_path found.mounts n folder) row ∙ sym same) in
      behind (mounts_path root) (names ++ (rules ++ templates)) path (Contains-append_right names (rules ++ templates) path (Contains-append_left rules templates path (subst (Contains rules) path_same listed)))
  owned_listed path bytes (inr (inr (folder, k, own, inr same))) there =
      let names = values_of found.seen.names.items (λ name has. secret_path found.mounts name) in
      let rules = values_of found.seen.rules.items rule_path_at in
      let templates = values_of found.seen.templates.items path_at in
      let has = has_template folder bytes k own (ap files (sym same) ∙ there) in
      let (there_has, listed) = value_there found.seen.templates.items path_at folder has in
      let t = template_at folder there_has in
      let row : t.row ≡ k = one_folder_row root folder found.mounts t.row k table t.own.1 own.1 in
      let path_same : path_at folder there_has ≡ path = t.path_is ∙ (ap (λ n. template_path found.mounts n folder) row ∙ sym same) in
      behind (mounts_path root) (names ++ (rules ++ templates)) path (Contains-append_right names (rules ++ templates) path (Contains-append_right rules templates path (subst (Contains templates) path_same listed)))

  listed_owned : (path : Text) → Contains owned_paths path → IsPlaced root found.mounts path
  unfolding owned_paths
  listed_owned path has = elim (first_or (mounts_path root) (values_of found.seen.names.items (λ name h. secret_path found.mounts name) ++ (values_of found.seen.rules.items rule_path_at ++ values_of found.seen.templates.items path_at)) path has) [
    | inl first ↦ inl (sym first)
    | inr more ↦ elim (Contains-append_cases (values_of found.seen.names.items (λ name h. secret_path found.mounts name)) (values_of found.seen.rules.items rule_path_at ++ values_of found.seen.templates.items path_at) path more) [
      | inl secret ↦ (let (name, h, same) = key_of_value found.seen.names.items (λ name h. secret_path found.mounts name) path secret in
          inr (inl (name, ((names_found root files found table is name).0 h).0, sym same)))
      | inr files_of ↦ elim (Contains-append_cases (values_of found.seen.rules.items rule_path_at) (values_of found.seen.templates.items path_at) path files_of) [
        | inl rule ↦ (let (folder, h, same) = key_of_value found.seen.rules.items rule_path_at path rule in
            let t = rule_found_at folder h in
            inr (inr (folder, t.row, t.own, inl (sym same ∙ t.path_is))))
        | inr template ↦ (let (folder, h, same) = key_of_value found.seen.templates.items path_at path template in
            let t = template_at folder h in
            inr (inr (folder, t.row, t.own, inr (sym same ∙ t.path_is))))
      ]
    ]
  ]

  -- the rest at a path, by what the two tests say
  rest_by : (out among : Bool) (path : Text) → is_outside root path ≡ out → is_among owned_paths path ≡ among → rest_at path ≡ (if out || among then None else files path)
  unfolding rest_at
  rest_by out among path e f = λ i. if e i || f i then None else files path

  owned_is : (path : Text) → IsPlaced root found.mounts path → rest_at path ≡ None
  owned_is path own = by (is_outside root path) (is_among owned_paths path) refl refl
    where
      by : (out among : Bool) → is_outside root path ≡ out → is_among owned_paths path ≡ among → rest_at path ≡ None
      by true among e f = rest_by true among path e f
      by false true e f = rest_by false true path e f
      by false false e f = rest_by false false path e f ∙ by_none (files path) (λ bytes there. true≢false (sym ((is_among_tells owned_paths path).1 (owned_listed path bytes own there)) ∙ f))

  outside_is : (path : Text) → is_outside root path ≡ true → rest_at path ≡ None
  outside_is path e = rest_by true (is_among owned_paths path) path e refl

  other_is : (path : Text) → ¬ IsPlaced root found.mounts path → is_outside root path ≡ false → rest_at path ≡ files path
  other_is path other e = by (is_among owned_paths path) refl
    where
      by : (among : Bool) → is_among owned_paths path ≡ among → rest_at path ≡ files path
      by true f = absurd (other (listed_owned path ((is_among_tells owned_paths path).0 f)))
      by false f = rest_by false false path e f

  pub found_keys : map.keys found_state.rows ≡ found.seen.names.items
  unfolding found_state
  found_keys = ap (each (λ (e : Text × Cell). e.0)) (map.entries-from_sorted (slice_cmp nat_cmp) (tabled found.seen.names.items cell_at) (sorted_tabled found.seen.names.items cell_at is.rising.names)) ∙ keys_tabled found.seen.names.items cell_at

  -- a folder without a file has no rule
  rule_listed : (folder : Text) (among : Bool) → is_among found.seen.rules.items folder ≡ among → Contains (map.keys found.rules) folder → Contains found.seen.rules.items folder
  rule_listed folder true e has = (is_among_tells found.seen.rules.items folder).0 e
  rule_listed folder false e has = (let (ids, there) = row_there found.rules folder has in
      absurd (no_some (sym (is.rules_are.others folder (λ h. differs (sym ((is_among_tells found.seen.rules.items folder).1 h) ∙ e))) ∙ there)))
    where
      differs : true ≡ false → ⊥
      differs e = cc

      no_some : {X : Type 0} {x : X} → None ≡ Some x → ⊥
      no_some e = cc

  -- and one that has a file has one
  rule_keyed : (folder : Text) → Contains found.seen.rules.items folder → Contains (map.keys found.rules) folder
  rule_keyed folder has =
      let t = (is.survey.found.rules folder).0 has in
      let lies = subst (λ (w : Kind). LiesAs found.mounts t.0 w t.1) t.7 t.6 in
      let own = folder_of_rule found.mounts t.0 t.1 folder lies in
      let file : files (rule_path found.mounts t.0 folder) ≡ Some t.5.0 = sym (rule_stays root files found.mounts t.0 folder table own) ∙ (ap (tree_files root files) (sym (path_of_rule found.mounts t.0 t.1 folder lies)) ∙ t.5.1) in
      keyed t.5.0 (rule_at found.rules folder) refl (subst (λ (f : Option Text). IsRuleOf f (rule_at found.rules folder)) file (ruled folder t.0 (is_among found.seen.rules.items folder) own refl))
    where
      keyed : (bytes : Text) (rule : Option Ids) → rule_at found.rules folder ≡ rule → IsRuleOf (Some bytes) rule → Contains (map.keys found.rules) folder
      keyed bytes None e told = absurd told
      keyed bytes (Some ids) e told = key_there found.rules folder ids e

  pub found_folders : map.keys found.rules ≡ found.seen.rules.items
  found_folders = one_set (map.keys found.rules) found.seen.rules.items (keys_rise found.rules) is.rising.rules (λ folder. (rule_listed folder (is_among found.seen.rules.items folder) refl, rule_keyed folder))

  few_rules : map.len found.rules ≤ 512
  few_rules = omega (arith, is.few_rules, few_keys found.rules found.seen.rules.items is.rising.rules (λ folder. rule_listed folder (is_among found.seen.rules.items folder) refl))

  few_secrets : map.len found_state.rows ≤ 8192
  few_secrets = omega (arith, is.few, length-keys found_state.rows, ap length found_keys)

  pub found_stands : StandsFor opens root files found_state
  unfolding found_state
  found_stands = record {
    mounts_are = is.mounts_are;
    rules = record { rule = λ folder k own. ruled folder k (is_among found.seen.rules.items folder) own refl; no_rule = no_rule_is };
    secrets = record {
      row = λ name good. map.get-from_sorted (slice_cmp nat_cmp) (tabled found.seen.names.items cell_at) name (sorted_tabled found.seen.names.items cell_at is.rising.names) ∙ row_is name good;
      no_row = λ name other. map.get-from_sorted (slice_cmp nat_cmp) (tabled found.seen.names.items cell_at) name (sorted_tabled found.seen.names.items cell_at is.rising.names) ∙ no_row_is name other;
    };
    templates = record {
      template = λ folder k own. map.get-from_sorted (slice_cmp nat_cmp) (tabled found.seen.templates.items bytes_at) folder (sorted_tabled found.seen.templates.items bytes_at is.rising.templates) ∙ template_is folder k own;
      no_template = λ folder other. map.get-from_sorted (slice_cmp nat_cmp) (tabled found.seen.templates.items bytes_at) folder (sorted_tabled found.seen.templates.items bytes_at is.rising.templates) ∙ no_template_is folder other;
    };
    sizes_are = record { as_many = is.survey.as_many; each = is.survey.each };
    rest = record { owned = owned_is; outside = outside_is; other = other_is };
    apart = record { strange = is.survey.found.strange; strange_rise = is.rising.strange; shadowed = is.survey.found.shadowed; shadowed_rise = is.rising.shadowed };
    limits = record { no_pending = is.no_pending; few_rules = few_rules; few_secrets = few_secrets };
  }

  pub found_mounts : found_state.mounts ≡ found.mounts
  unfolding found_state
  found_mounts = refl

  pub found_rules : found_state.rules ≡ found.rules
  unfolding found_state
  found_rules = refl

  pub found_sizes : found_state.sizes ≡ found.counts.items
  unfolding found_state
  found_sizes = refl

  pub found_templates : map.keys found_state.templates ≡ found.seen.templates.items
  unfolding found_state
  found_templates = ap (each (λ (e : Text × Text). e.0)) (map.entries-from_sorted (slice_cmp nat_cmp) (tabled found.seen.templates.items bytes_at) (sorted_tabled found.seen.templates.items bytes_at is.rising.templates)) ∙ keys_tabled found.seen.templates.items bytes_at

  pub found_strange : found_state.strange ≡ found.seen.strange.items
  unfolding found_state
  found_strange = refl

  pub found_shadowed : found_state.shadowed ≡ found.seen.shadowed.items
  unfolding found_state
  found_shadowed = refl

  pub found_agrees : Agrees found_state found
  found_agrees = record {
    mounts = found_mounts;
    rules = found_rules;
    names = found_keys;
    folders = ap (λ (rules : RuleMap). map.keys rules) found_rules ∙ found_folders;
    templates = found_templates;
    strange = found_strange;
    shadowed = found_shadowed;
    sizes = found_sizes;
  }
