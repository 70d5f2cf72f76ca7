-- The state for which files stand, where the file of one secret was written or taken away.
use Rattle.std.proofs.Common.{◌≡◌, ◌≢◌, inl, inr, ℕ, ◌<◌, true, false, cond, ◌++◌, length, slice_index_or, Option, Some, None, refl, ap, sym, ◌∙◌, subst, arith}
use Rattle.std.specs.Prelude.{codes, is_some, option_map}
use Rattle.std.specs.FinMap as map
use Rattle.std.specs.Ordering.{nat_cmp, eq_by_cmp}
use Rattle.std.specs.Cmp.Lexicographic.{slice_cmp}
use Rattle.std.proofs.lemmas.Bool.{false_from_ne_true, false≢true}
use Rattle.std.proofs.lemmas.Cmp.{nat_list_cmp_total}
use Rattle.std.proofs.lemmas.Map.Lookups.{exact_bytes}
use Rattle.gopass_base.specs.Text.{Text}
use Rattle.gopass_base.specs.Order.{TextMap}
use Rattle.mount_table.specs.Names.{IsName}
use Rattle.mount_table.specs.Mounts.{row_at, IsTable, IsMountOf}
use Rattle.mount_table.specs.MountOf.{mount_of}
use Rattle.mount_table.proofs.MountOfLemmas.{mount_computed}
use Rattle.disk_model.specs.Files.{Files, put}
use Rattle.disk_model.specs.Listing.{LiesIn, IsThere}
use Rattle.disk_model.proofs.FileLemmas.{cases_path, put_apart, put_here}
use Rattle.cipher_port.specs.Tool.{Opens}
use Rattle.path_rules.specs.RuleMap.{rule_at}
use Rattle.store_state.specs.Places.{rest_of, rule_file, rule_path, secret_path, template_file, template_path}
use Rattle.store_state.specs.Tree.{tree_files}
use Rattle.store_state.specs.RuleFiles.{IsRuleOf}
use Rattle.store_state.specs.State.{State, AreMounts, RulesStand, SecretsStand, TemplatesStand, RestStands, ApartStand, StandsFor, cell_of, mounts_path, pending_path}
use Rattle.store_state.proofs.FolderFileLemmas.{no_secret}
use Rattle.store_state.proofs.NameLemmas.{one_dir}
use Rattle.store_state.proofs.PathLemmas.{secret_at_path, secret_lies_in}
use Rattle.store_state.proofs.TableLemmas.{equal, ties}
use Rattle.store_core.specs.Edit.{IsWithin, has_secret, with_secret, with_row}
use Rattle.store_state.specs.declared.kind.Kind.TheVariants.{Secret}
use Rattle.store_state.specs.Found.{LiesAs, GivesStrange, GivesShadowed}
use Rattle.store_core.proofs.ApartLemmas.{list_kept}
use Rattle.store_core.proofs.CountLemmas.{IsCounted, counted_by}
use Rattle.store_state.proofs.SecretLemmas.{no_mounts_file, no_pending_file, secret_in_tree}
use Rattle.store_state.proofs.SecretLemmas.{insert_here, insert_apart, secret_paths_differ}

-- ---- rows with a cell more or less

pub row_here : {X : Type 0} (rows : TextMap X) (name : Text) (cell : Option X) → map.get (with_row rows name cell) name ≡ cell
row_here rows name (Some cell) = insert_here rows name cell
row_here rows name None = map.get-remove nat_list_cmp_total rows name name ∙ ap (λ b. cond b None (map.get rows name)) (ties name name refl)

pub row_apart : {X : Type 0} (rows : TextMap X) (name q : Text) (cell : Option X) → name ≢ q → map.get (with_row rows name cell) q ≡ map.get rows q
row_apart rows name q (Some cell) apart = insert_apart rows name q cell apart
row_apart rows name q None apart = map.get-remove nat_list_cmp_total rows name q
    ∙ ap (λ b. cond b None (map.get rows q)) (false_from_ne_true (eq_by_cmp (slice_cmp nat_cmp) q name) (λ e. apart (sym (exact_bytes q name (equal (slice_cmp nat_cmp q name) e)))))

-- ---- the state for which files stand, but for the limits

-- the files stand for the state, whether or not it passes a limit
pub record Nearly (opens : Opens) (root : Text) (files : Files) (state : State) : Type 0 where
  pub mounts_are : AreMounts root (files (mounts_path root)) state.mounts
  pub rules : RulesStand files state
  pub secrets : SecretsStand opens files state
  pub templates : TemplatesStand files state
  pub as_many : length state.sizes ≡ length state.mounts
  pub each : (k : ℕ) → k < length state.mounts → IsCounted root files state.mounts k (slice_index_or state.sizes k 0)
  pub rest : RestStands root files state
  pub apart : ApartStand root files state
  pub no_pending : files (pending_path root) ≡ None

pub nearly_from : (opens : Opens) (root : Text) (files : Files) (state : State) → StandsFor opens root files state → Nearly opens root files state
nearly_from opens root files state s = record {
  mounts_are = s.mounts_are;
  rules = s.rules;
  secrets = s.secrets;
  templates = s.templates;
  as_many = s.sizes_are.as_many;
  each = λ k lt. (let (paths, tree, is) = s.sizes_are.each k lt in (paths, tree.listing, is));
  rest = s.rest;
  apart = s.apart;
  no_pending = s.limits.no_pending;
}

pub nearly_stands : (opens : Opens) (root : Text) (files : Files) (state : State) → Nearly opens root files state → IsWithin state → StandsFor opens root files state
nearly_stands opens root files state n within = record {
  mounts_are = n.mounts_are;
  rules = n.rules;
  secrets = n.secrets;
  templates = n.templates;
  sizes_are = record {
    as_many = n.as_many;
    each = λ k lt. (let (paths, listing, is) = n.each k lt in (paths, record { listing = listing; few = omega (arith, is, within.few_files k lt) }, is));
  };
  rest = n.rest;
  apart = n.apart;
  limits = record { no_pending = n.no_pending; few_rules = within.few_rules; few_secrets = within.few_secrets };
}

-- ---- one step

there_by : (opens : Opens) (file : Option Text) → is_some (option_map (cell_of opens) file) ≡ true → (bytes : Text) × (file ≡ Some bytes)
there_by opens None e = absurd (false≢true e)
there_by opens (Some bytes) e = (bytes, refl)

not_by : (opens : Opens) (file : Option Text) → is_some (option_map (cell_of opens) file) ≡ false → (bytes : Text) → file ≡ Some bytes → ⊥
not_by opens None e bytes is = cc
not_by opens (Some bytes) e other is = false≢true (sym e)

module _ (opens : Opens) (root : Text) (files next : Files) (state : State) (name : Text) (file : Option Text) (s : Nearly opens root files state) (table : IsTable root state.mounts) (good : IsName name)
    (made : next ≡ put files (secret_path state.mounts name) file) where
  own : IsMountOf state.mounts name (mount_of state.mounts name)
  own = mount_computed root name state.mounts table

  file_here : next (secret_path state.mounts name) ≡ file
  file_here = ap (λ (f : Files). f (secret_path state.mounts name)) made ∙ put_here files (secret_path state.mounts name) file

  file_apart : (path : Text) → secret_path state.mounts name ≢ path → next path ≡ files path
  file_apart path apart = ap (λ (f : Files). f path) made ∙ put_apart files (secret_path state.mounts name) path file apart

  tree_apart : (path : Text) → secret_path state.mounts name ≢ path → tree_files root next path ≡ tree_files root files path
  tree_apart path apart = ap (λ (file : Option Text). tree_files root (λ q. file) path) (file_apart path apart)

  tree_here : tree_files root next (secret_path state.mounts name) ≡ file
  tree_here = secret_in_tree root next state.mounts name table good ∙ file_here

  tree_was : tree_files root files (secret_path state.mounts name) ≡ files (secret_path state.mounts name)
  tree_was = secret_in_tree root files state.mounts name table good

  row_put : (q : Text) → IsName q → map.get (with_row state.rows name (option_map (cell_of opens) file)) q ≡ option_map (cell_of opens) (next (secret_path state.mounts q))
  row_put q named = elim (cases_path name q) [
    | inl same ↦ subst (λ (t : Text). map.get (with_row state.rows name (option_map (cell_of opens) file)) t ≡ option_map (cell_of opens) (next (secret_path state.mounts t))) same
        (row_here state.rows name (option_map (cell_of opens) file) ∙ sym (ap (option_map (cell_of opens)) file_here))
    | inr apart ↦ row_apart state.rows name q (option_map (cell_of opens) file) apart
        ∙ (s.secrets.row q named ∙ sym (ap (option_map (cell_of opens)) (file_apart (secret_path state.mounts q) (secret_paths_differ root state.mounts name q table good named apart))))
  ]

  no_row_put : (q : Text) → ¬ IsName q → map.get (with_row state.rows name (option_map (cell_of opens) file)) q ≡ None
  no_row_put q other = row_apart state.rows name q (option_map (cell_of opens) file) (λ e. other (subst (λ (t : Text). IsName t) e good)) ∙ s.secrets.no_row q other

  lies_as : LiesAs state.mounts (mount_of state.mounts name) (Secret name) (secret_path state.mounts name)
  lies_as = (rest_of state.mounts name ++ codes ".gpg", refl, (secret_at_path root state.mounts name table good, own))

  -- it lies below its own mount alone
  own_mount : (k : ℕ) → k < length state.mounts → LiesIn (row_at state.mounts k).dir (secret_path state.mounts name) → mount_of state.mounts name ≡ k
  own_mount k lt lies = one_dir root state.mounts (mount_of state.mounts name) k (rest_of state.mounts name ++ codes ".gpg") lies.rest table own.inside lt lies.whole

  was_there : has_secret state name ≡ true → IsThere (tree_files root files) (secret_path state.mounts name)
  was_there e = (let there = there_by opens (files (secret_path state.mounts name)) (sym (ap is_some (s.secrets.row name good)) ∙ e) in (there.0, tree_was ∙ there.1))

  was_not : has_secret state name ≡ false → ¬ IsThere (tree_files root files) (secret_path state.mounts name)
  was_not e (bytes, is) = not_by opens (files (secret_path state.mounts name)) (sym (ap is_some (s.secrets.row name good)) ∙ e) bytes (sym tree_was ∙ is)

  pub step_stands : Nearly opens root next (with_secret opens name file state)
  step_stands =
      let counts = counted_by root files next state.mounts state.sizes (secret_path state.mounts name) (mount_of state.mounts name) file tree_apart tree_here own.inside (secret_lies_in root state.mounts name table good) own_mount s.as_many s.each (has_secret state name) file was_there was_not refl in
      record {
        mounts_are = subst (λ (file : Option Text). AreMounts root file state.mounts) (sym (file_apart (mounts_path root) (no_mounts_file root state.mounts name))) s.mounts_are;
        rules = record {
          rule = λ folder k own. subst (λ (file : Option Text). IsRuleOf file (rule_at state.rules folder)) (sym (file_apart (rule_path state.mounts k folder) (λ e. no_secret state.mounts k folder rule_file name (inl refl) (sym e)))) (s.rules.rule folder k own);
          no_rule = s.rules.no_rule;
        };
        secrets = record { row = row_put; no_row = no_row_put };
        templates = record {
          template = λ folder k own. s.templates.template folder k own ∙ sym (file_apart (template_path state.mounts k folder) (λ e. no_secret state.mounts k folder template_file name (inr refl) (sym e)));
          no_template = s.templates.no_template;
        };
        as_many = counts.0;
        each = counts.1;
        rest = record { owned = s.rest.owned; outside = s.rest.outside; other = λ path other out. s.rest.other path other out ∙ sym (file_apart path (λ e. other (inr (inl (name, good, sym e))))) };
        apart = record {
          strange = list_kept root files next state.mounts (secret_path state.mounts name) (mount_of state.mounts name) (Secret name) table own.inside lies_as file_apart GivesStrange state.strange (λ x (e, same). absurd (cc)) s.apart.strange;
          strange_rise = s.apart.strange_rise;
          shadowed = list_kept root files next state.mounts (secret_path state.mounts name) (mount_of state.mounts name) (Secret name) table own.inside lies_as file_apart GivesShadowed state.shadowed (λ x (e, same). absurd (cc)) s.apart.shadowed;
          shadowed_rise = s.apart.shadowed_rise;
        };
        no_pending = file_apart (pending_path root) (no_pending_file root state.mounts name) ∙ s.no_pending;
      }
