-- The state for which files stand, where the file of one rule was written or taken away.
use Rattle.std.proofs.Common.{◌≡◌, ◌≢◌, inl, inr, ℕ, ◌<◌, Bool, true, false, List, [], ◌∷◌, length, slice_index_or, Option, Some, None, refl, ap, sym, ◌∙◌, subst, arith}
use Rattle.std.specs.Prelude.{codes, is_some}
use Rattle.std.proofs.lemmas.Bool.{false≢true}
use Rattle.std.proofs.lemmas.List.{append_cancel_left}
use Rattle.gopass_base.specs.Text.{Text}
use Rattle.gopass_base.specs.Paths.{path_in}
use Rattle.mount_table.specs.Mounts.{row_at, IsTable, IsMountOfFolder}
use Rattle.mount_table.specs.declared.mounts.Row.{Row}
use Rattle.disk_model.specs.Files.{Files, put}
use Rattle.disk_model.proofs.FileLemmas.{cases_path, put_apart, put_here}
use Rattle.recipient_files.specs.Ids.{Ids}
use Rattle.cipher_port.specs.Tool.{Opens}
use Rattle.path_rules.specs.RuleMap.{rule_at}
use Rattle.store_state.specs.declared.kind.Kind.TheVariants.{Rule}
use Rattle.mount_table.specs.Folders.{IsFolder}
use Rattle.store_state.specs.Places.{IsFolderOf, folder_mount, IsKind, rule_file, rule_path, secret_path, template_path}
use Rattle.store_state.specs.RuleFiles.{IsRuleOf}
use Rattle.store_state.specs.State.{State, AreMounts, cell_of, mounts_path, pending_path}
use Rattle.store_state.specs.Tree.{tree_files}
use Rattle.store_state.proofs.FolderFileLemmas.{not_higher}
use Rattle.store_state.proofs.FolderMountLemmas.{folder_computed}
use Rattle.store_state.proofs.KindLemmas.{one_folder_row}
use Rattle.store_state.proofs.NameLemmas.{one_dir}
use Rattle.store_state.proofs.OneKind.{one_kind}
use Rattle.store_state.proofs.RuleLemmas.{rule_lies_as, rule_lies_in, rule_path_differs, rule_stays}
use Rattle.std.specs.Prelude.{option_map}
use Rattle.store_core.specs.Edit.{has_rule, resized, with_row, with_rule}
use Rattle.store_state.specs.Found.{GivesStrange, GivesShadowed}
use Rattle.store_core.proofs.ApartLemmas.{list_kept}
use Rattle.store_core.proofs.CountLemmas.{IsCounted, counted_by}
use Rattle.store_core.proofs.StepLemmas.{Nearly, row_apart, row_here}

-- the file of a rule is that of no other folder
pub rule_paths_same : (root : Text) (mounts : List Row) (j k : ℕ) (a b : Text) → IsTable root mounts → IsFolderOf mounts j a → IsFolderOf mounts k b → rule_path mounts j a ≡ rule_path mounts k b → a ≡ b
rule_paths_same root mounts j k a b table of_a of_b e =
    let (rest, whole, is) = rule_lies_as mounts j a of_a in
    let (other, again, is_other) = rule_lies_as mounts k b of_b in
    let paths = sym whole ∙ (e ∙ again) in
    let row : j ≡ k = one_dir root mounts j k rest other table of_a.1.inside of_b.1.inside paths in
    let tails : 47 ∷ rest ≡ 47 ∷ other = append_cancel_left (row_at mounts k).dir (47 ∷ rest) (47 ∷ other) (subst (λ (n : ℕ). path_in (row_at mounts n).dir rest ≡ path_in (row_at mounts k).dir other) row paths) in
    let rests : rest ≡ other = cc in
    let kinds : Rule a ≡ Rule b = one_kind mounts k other (Rule a) (Rule b) (subst (λ (r : Text). IsKind mounts k r (Rule a)) rests (subst (λ (n : ℕ). IsKind mounts n rest (Rule a)) row is)) is_other in
    cc

rule_there : (file : Option Text) (rule : Option Ids) → IsRuleOf file rule → (is_some rule ≡ true → (bytes : Text) × (file ≡ Some bytes)) × (is_some rule ≡ false → ¬ ((bytes : Text) × (file ≡ Some bytes)))
rule_there None rule is = (λ e. absurd (false≢true (sym (ap is_some is) ∙ e)), λ e (bytes, f). none_some f)
  where
    none_some : {bytes : Text} → None ≡ Some bytes → ⊥
    none_some e = cc
rule_there (Some bytes) (Some ids) is = (λ e. (bytes, refl), λ e there. false≢true (sym e))
rule_there (Some bytes) None is = absurd is

module _ (opens : Opens) (root : Text) (files next : Files) (state : State) (folder : Text) (rule : Option Ids) (file : Option Text) (s : Nearly opens root files state) (table : IsTable root state.mounts) (good : IsFolder folder)
    (told : IsRuleOf file rule) (there : is_some file ≡ is_some rule) (made : next ≡ put files (rule_path state.mounts (folder_mount state.mounts folder) folder) file) where
  abbrev k : ℕ
  k = folder_mount state.mounts folder

  of : IsFolderOf state.mounts k folder
  of = (good, folder_computed root folder state.mounts table)

  file_here : next (rule_path state.mounts k folder) ≡ file
  file_here = ap (λ (f : Files). f (rule_path state.mounts k folder)) made ∙ put_here files (rule_path state.mounts k folder) file

  file_apart : (q : Text) → rule_path state.mounts k folder ≢ q → next q ≡ files q
  file_apart q apart = ap (λ (f : Files). f q) made ∙ put_apart files (rule_path state.mounts k folder) q file apart

  tree_apart : (q : Text) → rule_path state.mounts k folder ≢ q → tree_files root next q ≡ tree_files root files q
  tree_apart q apart = ap (λ (f : Option Text). tree_files root (λ p. f) q) (file_apart q apart)

  each_rule : (other : Text) (j : ℕ) → IsFolderOf state.mounts j other → IsRuleOf (next (rule_path state.mounts j other)) (rule_at (with_row state.rules folder rule) other)
  each_rule other j own = elim (cases_path folder other) [
    | inl same ↦ (let row : j ≡ k = one_folder_row root folder state.mounts j k table (subst (λ (t : Text). IsMountOfFolder state.mounts t j) (sym same) own.1) of.1 in
        subst (λ (t : Text). IsRuleOf (next (rule_path state.mounts j t)) (rule_at (with_row state.rules folder rule) t)) same
        (subst (λ (n : ℕ). IsRuleOf (next (rule_path state.mounts n folder)) (rule_at (with_row state.rules folder rule) folder)) (sym row)
        (subst (λ (f : Option Text). IsRuleOf f (rule_at (with_row state.rules folder rule) folder)) (sym file_here) (subst (IsRuleOf file) (sym (row_here state.rules folder rule)) told))))
    | inr apart ↦ subst (λ (f : Option Text). IsRuleOf f (rule_at (with_row state.rules folder rule) other)) (sym (file_apart (rule_path state.mounts j other) (λ e. apart (rule_paths_same root state.mounts k j folder other table of own e))))
        (subst (IsRuleOf (files (rule_path state.mounts j other))) (sym (row_apart state.rules folder other rule apart)) (s.rules.rule other j own))
  ]

  pub rule_step : Nearly opens root next (with_rule folder rule state)
  rule_step =
      let was = rule_there (files (rule_path state.mounts k folder)) (rule_at state.rules folder) (s.rules.rule folder k of) in
      let stays = rule_stays root files state.mounts k folder table of in
      let counts = counted_by root files next state.mounts state.sizes (rule_path state.mounts k folder) k file tree_apart (rule_stays root next state.mounts k folder table of ∙ file_here) of.1.inside (rule_lies_in state.mounts k folder of)
      (λ j lt lies. one_dir root state.mounts k j _ lies.rest table of.1.inside lt (sym (rule_lies_in state.mounts k folder of).whole ∙ lies.whole)) s.as_many s.each (has_rule state folder) file
      (λ e. (let (bytes, is) = was.0 e in (bytes, stays ∙ is))) (λ e (bytes, is). was.1 e (bytes, sym stays ∙ is)) refl in
      record {
        mounts_are = subst (λ (f : Option Text). AreMounts root f state.mounts) (sym (file_apart (mounts_path root) (not_higher state.mounts k folder rule_file root (codes ".gopass-mount") 115 (inl refl) (omega arith)))) s.mounts_are;
        rules = record { rule = each_rule; no_rule = λ other none. row_apart state.rules folder other rule (λ e. none (subst (λ (t : Text). (j : ℕ) × IsFolderOf state.mounts j t) e (k, of))) ∙ s.rules.no_rule other none };
        secrets = record {
          row = λ name named. s.secrets.row name named ∙ sym (ap (option_map (cell_of opens)) (file_apart (secret_path state.mounts name) (rule_path_differs state.mounts k k folder folder name).1));
          no_row = s.secrets.no_row;
        };
        templates = record {
          template = λ other j own. s.templates.template other j own ∙ sym (file_apart (template_path state.mounts j other) (rule_path_differs state.mounts k j folder other []).0);
          no_template = s.templates.no_template;
        };
        as_many = subst (λ (b : Bool). length (resized (has_rule state folder) b k state.sizes) ≡ length state.mounts) there counts.0;
        each = subst (λ (b : Bool). (j : ℕ) → j < length state.mounts → IsCounted root next state.mounts j (slice_index_or (resized (has_rule state folder) b k state.sizes) j 0)) there counts.1;
        rest = record { owned = s.rest.owned; outside = s.rest.outside; other = λ q other out. s.rest.other q other out ∙ sym (file_apart q (λ e. other (inr (inr (folder, k, of, inl (sym e)))))) };
        apart = record {
          strange = list_kept root files next state.mounts (rule_path state.mounts k folder) k (Rule folder) table of.1.inside (rule_lies_as state.mounts k folder of) file_apart GivesStrange state.strange (λ x (e, same). absurd (cc)) s.apart.strange;
          strange_rise = s.apart.strange_rise;
          shadowed = list_kept root files next state.mounts (rule_path state.mounts k folder) k (Rule folder) table of.1.inside (rule_lies_as state.mounts k folder of) file_apart GivesShadowed state.shadowed (λ x (e, same). absurd (cc)) s.apart.shadowed;
          shadowed_rise = s.apart.shadowed_rise;
        };
        no_pending = file_apart (pending_path root) (not_higher state.mounts k folder rule_file root (codes ".gopass-pendin") 103 (inl refl) (omega arith)) ∙ s.no_pending;
      }
