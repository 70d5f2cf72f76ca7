-- What is found of a store whose files stand for a state; and what was found is what the state has.
use Rattle.std.proofs.Common.{◌≡◌, ◌≢◌, inl, inr, ℕ, ◌+◌, ◌-◌, ◌<◌, ◌≤◌, Bool, true, List, [], ◌∷◌, ◌++◌, length, get_or, take, Option, Some, None, cond, refl, ap, sym, ◌∙◌, subst, arith, eq-eqb}
use Rattle.std.specs.Prelude.{◌↔◌, Contains, option_map, codes, slice_index_or}
use Rattle.std.specs.FinMap as map
use Rattle.std.proofs.lemmas.List.{take_at, get_or_at, length_push}
use Rattle.gopass_base.specs.Text.{Text}
use Rattle.gopass_base.specs.Order.{IsRising}
use Rattle.mount_table.specs.Names.{IsName}
use Rattle.mount_table.specs.Folders.{IsFolder, IsFolderText, without_slash}
use Rattle.mount_table.specs.FaultOf.{folder_fault}
use Rattle.mount_table.specs.Mounts.{row_at, IsTable}
use Rattle.mount_table.specs.MountOf.{mount_of}
use Rattle.mount_table.specs.declared.mounts.Row.{Row}
use Rattle.mount_table.specs.declared.name.BadName.{BadName}
use Rattle.mount_table.proofs.FaultOfLemmas.{folder_none, none_folder}
use Rattle.mount_table.proofs.MountOfLemmas.{mount_computed}
use Rattle.disk_model.specs.Files.{Files}
use Rattle.disk_model.specs.Listing.{LiesIn, IsThere}
use Rattle.recipient_files.specs.Ids.{Ids}
use Rattle.recipient_files.proofs.SetLemmas.{one_set}
use Rattle.path_rules.specs.RuleMap.{rule_at}
use Rattle.pending_journal.specs.Service.{without_service}
use Rattle.cipher_port.specs.Tool.{Opens}
use Rattle.store_state.specs.declared.kind.Kind.{Kind}
use Rattle.store_state.specs.declared.kind.Kind.TheVariants.{Secret, Rule, Template}
use Rattle.store_state.specs.declared.opening.Found.{Found}
use Rattle.store_state.specs.Agrees.{Agrees}
use Rattle.store_state.specs.Found.{LiesAs, GivesName, GivesRule, GivesTemplate, GivesStrange, GivesShadowed}
use Rattle.store_state.specs.Opening.{IsFound}
use Rattle.store_state.specs.Order.{AreRising}
use Rattle.store_state.specs.Places.{IsKind, IsFolderOf, folder_mount, rest_of, rule_path, secret_path, template_path}
use Rattle.store_state.specs.RuleFiles.{AreRules, IsRuleOf}
use Rattle.store_state.specs.State.{State, Cell, StandsFor, AreMounts, cell_of, mounts_path}
use Rattle.store_state.specs.Survey.{IsCountOf, IsOfFiles, IsSurvey}
use Rattle.store_state.specs.Tree.{tree_files}
use Rattle.store_state.proofs.AgreeLemmas.{row_named}
use Rattle.store_state.proofs.FolderMountLemmas.{folder_computed}
use Rattle.store_state.proofs.KeyLemmas.{key_there, keys_rise, length-keys, row_missing, row_there}
use Rattle.store_state.proofs.KindLemmas.{one_folder_row}
use Rattle.store_state.proofs.NameLemmas.{no_service}
use Rattle.store_state.proofs.PathLemmas.{path_of_secret, secret_at_path, secret_lies_in}
use Rattle.store_state.proofs.RuleLemmas.{path_of_rule, folder_of_rule, rule_lies_as, rule_lies_in, rule_shown, rule_stays}
use Rattle.store_state.proofs.TemplateLemmas.{path_of_template, folder_of_template, template_lies_as, template_lies_in, template_stays}
use Rattle.store_state.proofs.SecretLemmas.{secret_in_tree}

none_some : {X : Type 0} {x : X} → None ≡ Some x → ⊥
none_some e = cc

-- ---- whether a text is a folder, by the word with a slash behind it

cut_slash : (text : Text) → without_slash (text ++ 47 ∷ []) ≡ text
cut_slash text =
    let whole = text ++ 47 ∷ [] in
    let n : length text ≡ length whole - 1 = omega (arith, length_push text 47) in
    ap (λ b. cond b (take (length whole - 1) whole) whole) (eq-eqb (get_or whole (length whole - 1) 0) 47 (get_or_at text 47 [] 0 (length whole - 1) n))
    ∙ take_at text (47 ∷ []) (length whole - 1) n

word_of : (text : Text) → IsFolder text → IsFolderText (text ++ 47 ∷ [])
word_of text is = record { some = omega (arith, length_push text 47); folder = subst (λ (t : Text). IsFolder t) (sym (cut_slash text)) is }

-- what holds of a folder, and else is refuted, tells that the text is a folder
told_folder : (text : Text) → ((IsFolder text → ⊥) → ⊥) → IsFolder text
told_folder text not_not = by (folder_fault (text ++ 47 ∷ [])) refl
  where
    by : (fault : Option BadName) → folder_fault (text ++ 47 ∷ []) ≡ fault → IsFolder text
    by None e = subst (λ (t : Text). IsFolder t) (cut_slash text) (none_folder (text ++ 47 ∷ []) e).folder
    by (Some bad) e = absurd (not_not (λ is. none_some (sym (folder_none (text ++ 47 ∷ []) (word_of text is)) ∙ e)))

module _ (opens : Opens) (root : Text) (files : Files) (state : State) (s : StandsFor opens root files state) (table : IsTable root state.mounts) where
  -- what has a rule or a template is a folder of the mount that is computed
  pub ruled_folder : (folder : Text) (ids : Ids) → rule_at state.rules folder ≡ Some ids → IsFolderOf state.mounts (folder_mount state.mounts folder) folder
  ruled_folder folder ids is = (
    told_folder folder (λ none. none_some (sym (s.rules.no_rule folder (λ (k, own). none own.0)) ∙ is)),
    folder_computed root folder state.mounts table,
  )

  pub template_folder : (folder bytes : Text) → map.get state.templates folder ≡ Some bytes → IsFolderOf state.mounts (folder_mount state.mounts folder) folder
  template_folder folder bytes is = (
    told_folder folder (λ none. none_some (sym (s.templates.no_template folder (λ (k, own). none own.0)) ∙ is)),
    folder_computed root folder state.mounts table,
  )

  -- ---- the names are the keys of the rows

  file_by : (file : Option Text) (cell : Cell) → option_map (cell_of opens) file ≡ Some cell → (bytes : Text) × (file ≡ Some bytes)
  file_by None cell e = absurd (cc)
  file_by (Some bytes) cell e = (bytes, refl)

  secret_lies_as : (name : Text) → IsName name → LiesAs state.mounts (mount_of state.mounts name) (Secret name) (secret_path state.mounts name)
  secret_lies_as name named = (rest_of state.mounts name ++ codes ".gpg", refl, (secret_at_path root state.mounts name table named, mount_computed root name state.mounts table))

  names_of_rows : IsOfFiles GivesName root files state.mounts (length state.mounts) (map.keys state.rows)
  names_of_rows x = (to, from)
    where
      to : Contains (map.keys state.rows) x → (k : ℕ) × (path : Text) × (kind : Kind) × (k < length state.mounts) × LiesIn (row_at state.mounts k).dir path × IsThere (tree_files root files) path × LiesAs state.mounts k kind path × GivesName kind path x
      to has =
          let (cell, is) = row_there state.rows x has in
          let named = row_named opens root files state x cell s is in
          let (bytes, there) = file_by (files (secret_path state.mounts x)) cell (sym (s.secrets.row x named) ∙ is) in
          (mount_of state.mounts x, secret_path state.mounts x, Secret x, (mount_computed root x state.mounts table).inside, secret_lies_in root state.mounts x table named, (bytes, secret_in_tree root files state.mounts x table named ∙ there), secret_lies_as x named, refl)

      from : ((k : ℕ) × (path : Text) × (kind : Kind) × (k < length state.mounts) × LiesIn (row_at state.mounts k).dir path × IsThere (tree_files root files) path × LiesAs state.mounts k kind path × GivesName kind path x) → Contains (map.keys state.rows) x
      from (k, path, kind, lt, inside, (bytes, there), (rest, whole, kind_is), gives) =
          let at = subst (λ (w : Kind). IsKind state.mounts k rest w) gives kind_is in
          let is : path ≡ secret_path state.mounts x = whole ∙ path_of_secret root state.mounts k rest x table at.0 at.1 in
          let file : files (secret_path state.mounts x) ≡ Some bytes = sym (secret_in_tree root files state.mounts x table at.0.good) ∙ (ap (tree_files root files) (sym is) ∙ there) in
          key_there state.rows x (cell_of opens bytes) (s.secrets.row x at.0.good ∙ ap (option_map (cell_of opens)) file)

  -- ---- the folders of rules and of templates are those of the maps

  rule_file_there : (file : Option Text) (ids : Ids) → IsRuleOf file (Some ids) → (bytes : Text) × (file ≡ Some bytes)
  rule_file_there None ids is = absurd (none_some (sym is))
  rule_file_there (Some bytes) ids is = (bytes, refl)

  rule_by_file : (folder bytes : Text) (rule : Option Ids) → IsRuleOf (Some bytes) rule → rule_at state.rules folder ≡ rule → Contains (map.keys state.rules) folder
  rule_by_file folder bytes None is e = absurd is
  rule_by_file folder bytes (Some ids) is e = key_there state.rules folder ids e

  rules_of_map : IsOfFiles GivesRule root files state.mounts (length state.mounts) (map.keys state.rules)
  rules_of_map x = (
    λ has. (
        let (ids, is) = row_there state.rules x has in
        let k = folder_mount state.mounts x in
        let own = ruled_folder x ids is in
        let (bytes, there) = rule_file_there (files (rule_path state.mounts k x)) ids (subst (IsRuleOf (files (rule_path state.mounts k x))) is (s.rules.rule x k own)) in
        (k, rule_path state.mounts k x, Rule x, own.1.inside, rule_lies_in state.mounts k x own, (bytes, rule_stays root files state.mounts k x table own ∙ there), rule_lies_as state.mounts k x own, refl)
        ),
    λ (k, path, kind, lt, inside, (bytes, there), lies, gives). (
        let at = subst (λ (w : Kind). LiesAs state.mounts k w path) gives lies in
        let own = folder_of_rule state.mounts k path x at in
        let file : files (rule_path state.mounts k x) ≡ Some bytes = sym (rule_stays root files state.mounts k x table own) ∙ (ap (tree_files root files) (sym (path_of_rule state.mounts k path x at)) ∙ there) in
        rule_by_file x bytes (rule_at state.rules x) (subst (λ (f : Option Text). IsRuleOf f (rule_at state.rules x)) file (s.rules.rule x k own)) refl
        ),
  )

  templates_of_map : IsOfFiles GivesTemplate root files state.mounts (length state.mounts) (map.keys state.templates)
  templates_of_map x = (
    λ has. (
        let (bytes, is) = row_there state.templates x has in
        let k = folder_mount state.mounts x in
        let own = template_folder x bytes is in
        let there = sym (s.templates.template x k own) ∙ is in
        (k, template_path state.mounts k x, Template x, own.1.inside, template_lies_in state.mounts k x own, (bytes, template_stays root files state.mounts k x table own ∙ there), template_lies_as state.mounts k x own, refl)
        ),
    λ (k, path, kind, lt, inside, (bytes, there), lies, gives). (
        let at = subst (λ (w : Kind). LiesAs state.mounts k w path) gives lies in
        let own = folder_of_template state.mounts k path x at in
        let file : files (template_path state.mounts k x) ≡ Some bytes = sym (template_stays root files state.mounts k x table own) ∙ (ap (tree_files root files) (sym (path_of_template state.mounts k path x at)) ∙ there) in
        key_there state.templates x bytes (s.templates.template x k own ∙ file)
        ),
  )

  rules_are : AreRules root files state.mounts (map.keys state.rules) state.rules
  rules_are = record {
    each = λ folder has. (
        let (ids, is) = row_there state.rules folder has in
        let k = folder_mount state.mounts folder in
        let own = ruled_folder folder ids is in
        (k, own.1, subst (λ (f : Option Text). IsRuleOf f (rule_at state.rules folder)) (sym (rule_shown root files state.mounts k folder table own)) (s.rules.rule folder k own))
        );
    others = λ folder out. row_missing state.rules folder out;
  }

  -- what is found is what the state has
  pub agreed_found : (found : Found) → Agrees state found → IsFound root files found
  agreed_found found a =
      let mounts = a.mounts in
      let moved : (Gives : Kind → Text → Text → Type 0) (list : List Text) → IsOfFiles Gives root files state.mounts (length state.mounts) list → IsOfFiles Gives root files found.mounts (length found.mounts) list =
      λ Gives list is. subst (λ (rows : List Row). IsOfFiles Gives root files rows (length rows) list) mounts is in
      record {
        mounts_are = subst (AreMounts root (files (mounts_path root))) mounts s.mounts_are;
        table = subst (IsTable root) mounts table;
        no_pending = s.limits.no_pending;
        survey = record {
          found = record {
            names = subst (IsOfFiles GivesName root files found.mounts (length found.mounts)) a.names (moved GivesName (map.keys state.rows) names_of_rows);
            rules = subst (IsOfFiles GivesRule root files found.mounts (length found.mounts)) a.folders (moved GivesRule (map.keys state.rules) rules_of_map);
            templates = subst (IsOfFiles GivesTemplate root files found.mounts (length found.mounts)) a.templates (moved GivesTemplate (map.keys state.templates) templates_of_map);
            strange = subst (IsOfFiles GivesStrange root files found.mounts (length found.mounts)) a.strange (moved GivesStrange state.strange s.apart.strange);
            shadowed = subst (IsOfFiles GivesShadowed root files found.mounts (length found.mounts)) a.shadowed (moved GivesShadowed state.shadowed s.apart.shadowed);
          };
          as_many = ap length (sym a.sizes) ∙ (s.sizes_are.as_many ∙ ap length mounts);
          each = λ k lt. subst (λ (l : List ℕ). IsCountOf root files found.mounts k (slice_index_or l k 0)) a.sizes
              (subst (λ (rows : List Row). IsCountOf root files rows k (slice_index_or state.sizes k 0)) mounts (s.sizes_are.each k (omega (arith, lt, ap length mounts))));
        };
        rising = record {
          names = subst IsRising a.names (keys_rise state.rows);
          rules = subst IsRising a.folders (keys_rise state.rules);
          templates = subst IsRising a.templates (keys_rise state.templates);
          strange = subst IsRising a.strange s.apart.strange_rise;
          shadowed = subst IsRising a.shadowed s.apart.shadowed_rise;
        };
        few_rules = (let most = s.limits.few_rules in omega (arith, most, length-keys state.rules, ap length a.folders));
        few = (let most = s.limits.few_secrets in omega (arith, most, length-keys state.rows, ap length a.names));
        rules_are = subst (λ (rows : List Row). AreRules root files rows found.seen.rules.items found.rules) mounts
            (subst (λ (folders : List Text). AreRules root files state.mounts folders found.rules) a.folders (subst (AreRules root files state.mounts (map.keys state.rules)) a.rules rules_are));
      }
