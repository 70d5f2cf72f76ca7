-- The state for which files stand, where the file of one template was written or taken away.
use Rattle.std.proofs.Common.{◌≡◌, ◌≢◌, inl, inr, ℕ, true, false, List, [], ◌∷◌, Option, Some, None, refl, ap, sym, ◌∙◌, subst, arith}
use Rattle.std.specs.Prelude.{codes, is_some, option_map}
use Rattle.std.specs.FinMap as map
use Rattle.std.proofs.lemmas.Bool.{false≢true}
use Rattle.std.proofs.lemmas.List.{append_cancel_left}
use Rattle.gopass_base.specs.Text.{Text}
use Rattle.gopass_base.specs.Paths.{path_in}
use Rattle.mount_table.specs.Folders.{IsFolder}
use Rattle.mount_table.specs.Mounts.{row_at, IsTable, IsMountOfFolder}
use Rattle.mount_table.specs.declared.mounts.Row.{Row}
use Rattle.disk_model.specs.Files.{Files, put}
use Rattle.disk_model.proofs.FileLemmas.{cases_path, put_apart, put_here}
use Rattle.cipher_port.specs.Tool.{Opens}
use Rattle.path_rules.specs.RuleMap.{rule_at}
use Rattle.store_state.specs.declared.kind.Kind.TheVariants.{Template}
use Rattle.store_state.specs.Found.{GivesStrange, GivesShadowed}
use Rattle.store_state.specs.Places.{IsFolderOf, IsKind, folder_mount, rule_path, secret_path, template_file, template_path}
use Rattle.store_state.specs.RuleFiles.{IsRuleOf}
use Rattle.store_state.specs.State.{State, AreMounts, cell_of, mounts_path, pending_path}
use Rattle.store_state.specs.Tree.{tree_files}
use Rattle.store_state.proofs.FolderFileLemmas.{no_secret, not_higher}
use Rattle.store_state.proofs.FolderMountLemmas.{folder_computed}
use Rattle.store_state.proofs.KindLemmas.{one_folder_row}
use Rattle.store_state.proofs.NameLemmas.{one_dir}
use Rattle.store_state.proofs.OneKind.{one_kind}
use Rattle.store_state.proofs.RuleLemmas.{rule_path_differs}
use Rattle.store_state.proofs.TemplateLemmas.{template_lies_as, template_lies_in, template_stays}
use Rattle.store_core.specs.Edit.{has_template, with_row, with_template}
use Rattle.store_core.proofs.ApartLemmas.{list_kept}
use Rattle.store_core.proofs.CountLemmas.{counted_by}
use Rattle.store_core.proofs.StepLemmas.{Nearly, row_apart, row_here}

-- the file of a template is that of no other folder
pub template_paths_same : (root : Text) (mounts : List Row) (j k : ℕ) (a b : Text) → IsTable root mounts → IsFolderOf mounts j a → IsFolderOf mounts k b → template_path mounts j a ≡ template_path mounts k b → a ≡ b
template_paths_same root mounts j k a b table of_a of_b e =
    let (rest, whole, is) = template_lies_as mounts j a of_a in
    let (other, again, is_other) = template_lies_as mounts k b of_b in
    let paths = sym whole ∙ (e ∙ again) in
    let row : j ≡ k = one_dir root mounts j k rest other table of_a.1.inside of_b.1.inside paths in
    let tails : 47 ∷ rest ≡ 47 ∷ other = append_cancel_left (row_at mounts k).dir (47 ∷ rest) (47 ∷ other) (subst (λ (n : ℕ). path_in (row_at mounts n).dir rest ≡ path_in (row_at mounts k).dir other) row paths) in
    let rests : rest ≡ other = cc in
    let kinds : Template a ≡ Template b = one_kind mounts k other (Template a) (Template b) (subst (λ (r : Text). IsKind mounts k r (Template a)) rests (subst (λ (n : ℕ). IsKind mounts n rest (Template a)) row is)) is_other in
    cc

template_there : (file bytes : Option Text) → bytes ≡ file → (is_some bytes ≡ true → (x : Text) × (file ≡ Some x)) × (is_some bytes ≡ false → ¬ ((x : Text) × (file ≡ Some x)))
template_there file None is = (λ e. absurd (false≢true e), λ e (x, f). none_some (is ∙ f))
  where
    none_some : {x : Text} → None ≡ Some x → ⊥
    none_some e = cc
template_there file (Some bytes) is = (λ e. (bytes, sym is), λ e there. false≢true (sym e))

module _ (opens : Opens) (root : Text) (files next : Files) (state : State) (folder : Text) (file : Option Text) (s : Nearly opens root files state) (table : IsTable root state.mounts) (good : IsFolder folder)
    (made : next ≡ put files (template_path state.mounts (folder_mount state.mounts folder) folder) file) where
  abbrev k : ℕ
  k = folder_mount state.mounts folder

  of : IsFolderOf state.mounts k folder
  of = (good, folder_computed root folder state.mounts table)

  file_here : next (template_path state.mounts k folder) ≡ file
  file_here = ap (λ (f : Files). f (template_path state.mounts k folder)) made ∙ put_here files (template_path state.mounts k folder) file

  file_apart : (q : Text) → template_path state.mounts k folder ≢ q → next q ≡ files q
  file_apart q apart = ap (λ (f : Files). f q) made ∙ put_apart files (template_path state.mounts k folder) q file apart

  tree_apart : (q : Text) → template_path state.mounts k folder ≢ q → tree_files root next q ≡ tree_files root files q
  tree_apart q apart = ap (λ (f : Option Text). tree_files root (λ p. f) q) (file_apart q apart)

  each_template : (other : Text) (j : ℕ) → IsFolderOf state.mounts j other → map.get (with_row state.templates folder file) other ≡ next (template_path state.mounts j other)
  each_template other j own = elim (cases_path folder other) [
    | inl same ↦ (let row : j ≡ k = one_folder_row root folder state.mounts j k table (subst (λ (t : Text). IsMountOfFolder state.mounts t j) (sym same) own.1) of.1 in
        subst (λ (t : Text). map.get (with_row state.templates folder file) t ≡ next (template_path state.mounts j t)) same
        (row_here state.templates folder file ∙ sym (ap (λ n. next (template_path state.mounts n folder)) row ∙ file_here)))
    | inr apart ↦ row_apart state.templates folder other file apart
        ∙ (s.templates.template other j own ∙ sym (file_apart (template_path state.mounts j other) (λ e. apart (template_paths_same root state.mounts k j folder other table of own e))))
  ]

  pub template_step : Nearly opens root next (with_template folder file state)
  template_step =
      let was = template_there (files (template_path state.mounts k folder)) (map.get state.templates folder) (s.templates.template folder k of) in
      let stays = template_stays root files state.mounts k folder table of in
      let counts = counted_by root files next state.mounts state.sizes (template_path state.mounts k folder) k file tree_apart (template_stays root next state.mounts k folder table of ∙ file_here) of.1.inside (template_lies_in state.mounts k folder of)
      (λ j lt lies. one_dir root state.mounts k j _ lies.rest table of.1.inside lt (sym (template_lies_in state.mounts k folder of).whole ∙ lies.whole)) s.as_many s.each (has_template state folder) file
      (λ e. (let (bytes, is) = was.0 e in (bytes, stays ∙ is))) (λ e (bytes, is). was.1 e (bytes, sym stays ∙ is)) refl in
      record {
        mounts_are = subst (λ (f : Option Text). AreMounts root f state.mounts) (sym (file_apart (mounts_path root) (not_higher state.mounts k folder template_file root (codes ".gopass-mount") 115 (inr refl) (omega arith)))) s.mounts_are;
        rules = record {
          rule = λ other j own. subst (λ (f : Option Text). IsRuleOf f (rule_at state.rules other)) (sym (file_apart (rule_path state.mounts j other) (λ e. (rule_path_differs state.mounts j k other folder []).0 (sym e)))) (s.rules.rule other j own);
          no_rule = s.rules.no_rule;
        };
        secrets = record {
          row = λ name named. s.secrets.row name named ∙ sym (ap (option_map (cell_of opens)) (file_apart (secret_path state.mounts name) (no_secret state.mounts k folder template_file name (inr refl))));
          no_row = s.secrets.no_row;
        };
        templates = record { template = each_template; no_template = λ other none. row_apart state.templates folder other file (λ e. none (subst (λ (t : Text). (j : ℕ) × IsFolderOf state.mounts j t) e (k, of))) ∙ s.templates.no_template other none };
        as_many = counts.0;
        each = counts.1;
        rest = record { owned = s.rest.owned; outside = s.rest.outside; other = λ q other out. s.rest.other q other out ∙ sym (file_apart q (λ e. other (inr (inr (folder, k, of, inr (sym e)))))) };
        apart = record {
          strange = list_kept root files next state.mounts (template_path state.mounts k folder) k (Template folder) table of.1.inside (template_lies_as state.mounts k folder of) file_apart GivesStrange state.strange (λ x (e, same). absurd (cc)) s.apart.strange;
          strange_rise = s.apart.strange_rise;
          shadowed = list_kept root files next state.mounts (template_path state.mounts k folder) k (Template folder) table of.1.inside (template_lies_as state.mounts k folder of) file_apart GivesShadowed state.shadowed (λ x (e, same). absurd (cc)) s.apart.shadowed;
          shadowed_rise = s.apart.shadowed_rise;
        };
        no_pending = file_apart (pending_path root) (not_higher state.mounts k folder template_file root (codes ".gopass-pendin") 103 (inr refl) (omega arith)) ∙ s.no_pending;
      }
