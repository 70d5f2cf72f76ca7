-- Tables with the same places: the files of a store stand for the same state but for its mounts.
use Rattle.std.proofs.Common.{◌≡◌, ◌≢◌, inl, inr, ℕ, Bool, ◌||◌, List, ◌∷◌, length, Option, Some, None, bytes_eq, if◌then◌else◌, refl, ap, sym, ◌∙◌, subst, arith, drop, length-append}
use Rattle.std.specs.Prelude.{codes, option_map}
use Rattle.std.proofs.Math.Path.{fun_ext}
use Rattle.std.proofs.lemmas.Slice.Eq.{bytes_eq-Decides}
use Rattle.gopass_base.specs.Text.{Text}
use Rattle.gopass_base.specs.Paths.{path_in, file_of}
use Rattle.mount_table.specs.Prefixes.{rest_start}
use Rattle.mount_table.specs.Mounts.{IsTable, row_at}
use Rattle.mount_table.specs.MountOf.{mount_of}
use Rattle.mount_table.specs.MountsText.{table_text}
use Rattle.mount_table.specs.SamePlaces.{HaveSamePlaces}
use Rattle.mount_table.specs.declared.mounts.Row.{Row}
use Rattle.mount_table.proofs.SamePlacesLemmas.{folder_mount_moves, mount_moves, mount_same, places_back, places_table}
use Rattle.disk_model.specs.Files.{Files, put}
use Rattle.disk_model.specs.Listing.{IsListing, IsThere, LiesIn}
use Rattle.disk_model.proofs.FileLemmas.{cases_path, put_apart, put_here}
use Rattle.pending_journal.specs.Service.{without_service}
use Rattle.cipher_port.specs.Tool.{Opens}
use Rattle.path_rules.specs.RuleMap.{rule_at}
use Rattle.store_state.specs.declared.kind.Kind.{Kind}
use Rattle.store_state.specs.declared.kind.Kind.TheVariants.{Secret, Rule, Template, Shadowed, Hidden, Strange}
use Rattle.store_state.specs.declared.opening.Found.{Found}
use Rattle.store_state.specs.Agrees.{Agrees}
use Rattle.store_state.specs.Found.{GivesStrange, GivesShadowed, LiesAs}
use Rattle.store_state.specs.Places.{IsFolderFile, IsFolderFileAt, IsFolderOf, IsKind, IsRuleOrTemplate, IsSecretAt, folder_mount, folder_path, folder_rest, in_folder, rule_file, secret_path, template_file}
use Rattle.store_state.specs.RuleFiles.{IsRuleOf}
use Rattle.store_state.specs.State.{State, AreMounts, RulesStand, SecretsStand, TemplatesStand, RestStands, ApartStand, IsPlaced, StandsFor, cell_of, mounts_path, pending_path}
use Rattle.store_state.specs.Survey.{IsOfFiles}
use Rattle.store_state.specs.Tree.{tree_files}
use Rattle.store_state.proofs.FolderFileLemmas.{not_higher}
use Rattle.store_state.proofs.FolderMountLemmas.{folder_computed}
use Rattle.store_state.proofs.KindLemmas.{one_folder_row}
use Rattle.store_state.proofs.SecretLemmas.{no_mounts_file}

-- ---- the places

module _ (root : Text) (mounts others : List Row) (same : HaveSamePlaces mounts others) where
  -- each file has the same path
  pub folder_path_same : (k : ℕ) (folder file : Text) → folder_path others k folder file ≡ folder_path mounts k folder file
  folder_path_same k folder file = λ i. path_in (same.dirs k i) (in_folder (folder_rest (same.aliases k i) folder) file)

  pub secret_path_same : (name : Text) → IsTable root mounts → secret_path others name ≡ secret_path mounts name
  secret_path_same name table =
      let k = mount_of mounts name in
      ap (λ n. file_of (row_at others n).dir (drop (rest_start (row_at others n).alias name) name)) (mount_same mounts others same root name table)
      ∙ (λ i. file_of (same.dirs k i) (drop (rest_start (same.aliases k i) name) name))

  pub folder_mount_same : (folder : Text) → IsTable root mounts → folder_mount others folder ≡ folder_mount mounts folder
  folder_mount_same folder table =
      let now = places_table mounts others same root table in
      one_folder_row root folder others (folder_mount others folder) (folder_mount mounts folder) now (folder_computed root folder others now)
      (folder_mount_moves mounts others same folder (folder_mount mounts folder) (folder_computed root folder mounts table))

  -- and is of the same kind
  pub kind_moves : (k : ℕ) (rest : Text) (kind : Kind) → IsKind mounts k rest kind → IsKind others k rest kind
  kind_moves k rest (Secret name) is = (subst (λ (alias : Text). IsSecretAt alias rest name) (sym (same.aliases k)) is.0, mount_moves mounts others same name k is.1)
  kind_moves k rest (Rule folder) is = (subst (λ (alias : Text). IsFolderFileAt rule_file alias rest folder) (sym (same.aliases k)) is.0, folder_mount_moves mounts others same folder k is.1)
  kind_moves k rest (Template folder) is = (subst (λ (alias : Text). IsFolderFileAt template_file alias rest folder) (sym (same.aliases k)) is.0, folder_mount_moves mounts others same folder k is.1)
  kind_moves k rest Shadowed (inl (name, at, apart)) =
      inl (name, subst (λ (alias : Text). IsSecretAt alias rest name) (sym (same.aliases k)) at, λ own. apart (mount_moves others mounts (places_back mounts others same) name k own))
  kind_moves k rest Shadowed (inr (folder, at, apart)) =
      inr (folder, subst (λ (alias : Text). IsRuleOrTemplate alias rest folder) (sym (same.aliases k)) at, λ own. apart (folder_mount_moves others mounts (places_back mounts others same) folder k own))
  kind_moves k rest Hidden is = (is.0, λ folder at. is.1 folder (subst (λ (alias : Text). IsRuleOrTemplate alias rest folder) (same.aliases k) at))
  kind_moves k rest Strange is = (is.0, λ name at. is.1 name (subst (λ (alias : Text). IsSecretAt alias rest name) (same.aliases k) at))

  lies_moves : (k : ℕ) (kind : Kind) (path : Text) → LiesAs mounts k kind path → LiesAs others k kind path
  lies_moves k kind path (rest, whole, is) = (rest, whole ∙ ap (λ (dir : Text). path_in dir rest) (sym (same.dirs k)), kind_moves k rest kind is)

  folder_moves : (k : ℕ) (folder : Text) → IsFolderOf mounts k folder → IsFolderOf others k folder
  folder_moves k folder (good, own) = (good, folder_mount_moves mounts others same folder k own)

  placed_moves : (path : Text) → IsTable root mounts → IsPlaced root mounts path → IsPlaced root others path
  placed_moves path table (inl own) = inl own
  placed_moves path table (inr (inl (name, good, is))) = inr (inl (name, good, is ∙ sym (secret_path_same name table)))
  placed_moves path table (inr (inr (folder, k, of, inl rule))) = inr (inr (folder, k, folder_moves k folder of, inl (rule ∙ sym (folder_path_same k folder rule_file))))
  placed_moves path table (inr (inr (folder, k, of, inr template))) = inr (inr (folder, k, folder_moves k folder of, inr (template ∙ sym (folder_path_same k folder template_file))))

-- ---- the mounts file is in no tree

pub tree_without_mounts : (root : Text) (files : Files) (file : Option Text) → tree_files root (put files (mounts_path root) file) ≡ tree_files root files
tree_without_mounts root files file = fun_ext (λ path. elim (cases_path (mounts_path root) path) [
  | inl own ↦ ap (λ (b : Bool). if b || bytes_eq path (pending_path root) then None else without_service root (put files (mounts_path root) file) path) ((bytes_eq-Decides path (mounts_path root)).1 (sym own))
      ∙ sym (ap (λ (b : Bool). if b || bytes_eq path (pending_path root) then None else without_service root files path) ((bytes_eq-Decides path (mounts_path root)).1 (sym own)))
  | inr apart ↦ ap (λ (there : Option Text). tree_files root (λ q. there) path) (put_apart files (mounts_path root) path file apart)
])

-- ---- the state, with another table

module _ (opens : Opens) (root : Text) (files : Files) (file : Option Text) (state : State) (others : List Row) (same : HaveSamePlaces state.mounts others) (table : IsTable root state.mounts) where
  abbrev next : Files
  next = put files (mounts_path root) file

  abbrev moved : State
  moved = record state { mounts = others }

  back : HaveSamePlaces others state.mounts
  back = places_back state.mounts others same

  now : IsTable root others
  now = places_table state.mounts others same root table

  file_apart : (path : Text) → mounts_path root ≢ path → next path ≡ files path
  file_apart path apart = put_apart files (mounts_path root) path file apart

  folder_file_same : (k : ℕ) (folder name : Text) → IsFolderFile name → next (folder_path others k folder name) ≡ files (folder_path state.mounts k folder name)
  folder_file_same k folder name one =
      ap next (folder_path_same root state.mounts others same k folder name)
      ∙ file_apart (folder_path state.mounts k folder name) (λ e. not_higher state.mounts k folder name root (codes ".gopass-mount") 115 one (omega arith) (sym e))

  secret_file_same : (name : Text) → next (secret_path others name) ≡ files (secret_path state.mounts name)
  secret_file_same name = ap next (secret_path_same root state.mounts others same name table) ∙ file_apart (secret_path state.mounts name) (λ e. no_mounts_file root state.mounts name (sym e))

  pub moved_mounts : file ≡ Some (table_text others) → AreMounts root (next (mounts_path root)) others
  moved_mounts is = subst (λ (f : Option Text). AreMounts root f others) (sym (put_here files (mounts_path root) file ∙ is)) (now, refl)

  pub moved_rules : RulesStand files state → RulesStand next moved
  moved_rules s = record {
    rule = λ folder k of. subst (λ (f : Option Text). IsRuleOf f (rule_at state.rules folder)) (sym (folder_file_same k folder rule_file (inl refl))) (s.rule folder k (folder_moves root others state.mounts back k folder of));
    no_rule = λ folder none. s.no_rule folder (λ (k, of). none (k, folder_moves root state.mounts others same k folder of));
  }

  pub moved_secrets : SecretsStand opens files state → SecretsStand opens next moved
  moved_secrets s = record { row = λ name good. s.row name good ∙ sym (ap (option_map (cell_of opens)) (secret_file_same name)); no_row = s.no_row }

  pub moved_templates : TemplatesStand files state → TemplatesStand next moved
  moved_templates s = record {
    template = λ folder k of. s.template folder k (folder_moves root others state.mounts back k folder of) ∙ sym (folder_file_same k folder template_file (inr refl));
    no_template = λ folder none. s.no_template folder (λ (k, of). none (k, folder_moves root state.mounts others same k folder of));
  }

  pub moved_listing : (k : ℕ) (paths : List Text) → IsListing (tree_files root files) (row_at state.mounts k).dir paths → IsListing (tree_files root next) (row_at others k).dir paths
  moved_listing k paths h = subst (λ (t : Files). IsListing t (row_at others k).dir paths) (sym (tree_without_mounts root files file)) (subst (λ (dir : Text). IsListing (tree_files root files) dir paths) (sym (same.dirs k)) h)

  pub moved_rest : RestStands root files state → RestStands root next moved
  moved_rest s = record {
    owned = λ path placed. s.owned path (placed_moves root others state.mounts back path now placed);
    outside = s.outside;
    other = λ path none out. s.other path (λ placed. none (placed_moves root state.mounts others same path table placed)) out ∙ sym (file_apart path (λ e. none (inl (sym e))));
  }

  list_moves : (Gives : Kind → Text → Text → Type 0) (n : ℕ) (list : List Text) → IsOfFiles Gives root files state.mounts n list → IsOfFiles Gives root next others n list
  list_moves Gives n list h x = (
    λ has. (let (k, path, kind, lt, lies, there, here, gives) = (h x).0 has in (
      k,
      path,
      kind,
      lt,
      subst (λ (dir : Text). LiesIn dir path) (sym (same.dirs k)) lies,
      subst (λ (t : Files). IsThere t path) (sym (tree_without_mounts root files file)) there,
      lies_moves root state.mounts others same k kind path here,
      gives,
    )),
    λ (k, path, kind, lt, lies, there, here, gives). (h x).1 (
      k,
      path,
      kind,
      lt,
      subst (λ (dir : Text). LiesIn dir path) (same.dirs k) lies,
      subst (λ (t : Files). IsThere t path) (tree_without_mounts root files file) there,
      lies_moves root others state.mounts back k kind path here,
      gives,
    ),
  )

  list_of_all : (Gives : Kind → Text → Text → Type 0) (list : List Text) → IsOfFiles Gives root files state.mounts (length state.mounts) list → IsOfFiles Gives root next others (length others) list
  list_of_all Gives list h = subst (λ (n : ℕ). IsOfFiles Gives root next others n list) (sym same.as_many) (list_moves Gives (length state.mounts) list h)

  pub moved_apart : ApartStand root files state → ApartStand root next moved
  moved_apart s = record {
    strange = list_of_all GivesStrange state.strange s.strange;
    strange_rise = s.strange_rise;
    shadowed = list_of_all GivesShadowed state.shadowed s.shadowed;
    shadowed_rise = s.shadowed_rise;
  }

  pub moved_pending : files (pending_path root) ≡ None → next (pending_path root) ≡ None
  moved_pending none =
      file_apart (pending_path root) (λ e. absurd (omega (arith, ap length e, length-append root (47 ∷ codes ".gopass-mounts"), length-append root (47 ∷ codes ".gopass-pending")))) ∙ none

  -- what stands for the state stands for that with the other table, once the mounts file tells it
  pub moved_stands : file ≡ Some (table_text others) → StandsFor opens root files state → StandsFor opens root next moved
  moved_stands is s = record {
    mounts_are = moved_mounts is;
    rules = moved_rules s.rules;
    secrets = moved_secrets s.secrets;
    templates = moved_templates s.templates;
    sizes_are = record {
      as_many = s.sizes_are.as_many ∙ sym same.as_many;
      each = λ k lt. (let (paths, tree, is) = s.sizes_are.each k (omega (arith, lt, same.as_many)) in (paths, record { listing = moved_listing k paths tree.listing; few = tree.few }, is));
    };
    rest = moved_rest s.rest;
    apart = moved_apart s.apart;
    limits = record { no_pending = moved_pending s.limits.no_pending; few_rules = s.limits.few_rules; few_secrets = s.limits.few_secrets };
  }

-- and what was found is what the state has, each with the other table
pub agrees_moved : (state : State) (found : Found) (others : List Row) → Agrees state found → Agrees (record state { mounts = others }) (record found { mounts = others })
agrees_moved state found others a = record {
  mounts = refl;
  rules = a.rules;
  names = a.names;
  folders = a.folders;
  templates = a.templates;
  strange = a.strange;
  shadowed = a.shadowed;
  sizes = a.sizes;
}
