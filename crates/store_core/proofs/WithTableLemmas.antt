-- What an edit that writes a table of mounts besides makes of the files, and of the state for which they stand.
use Rattle.std.proofs.Common.{◌≡◌, ◌≢◌, inl, inr, ℕ, ◌<◌, ◌≤◌, true, false, List, [], ◌∷◌, ◌++◌, length, Option, Some, None, refl, ap, sym, ◌∙◌, subst, arith}
use Rattle.std.specs.Prelude.{Contains, codes, Ok, slice_index_or}
use Rattle.std.proofs.Math.Logic.{∥∥₁_map}
use Rattle.std.proofs.lemmas.Bool.{cases_lt, false≢true}
use Rattle.std.proofs.lemmas.List.{append-nil, get_or_past}
use Rattle.std.proofs.lemmas.List.Elements.{Contains-append_cases}
use Rattle.gopass_base.specs.Text.{Text}
use Rattle.gopass_base.proofs.ListLemmas.{here, later, first_or}
use Rattle.mount_table.specs.Mounts.{IsTable, root_of}
use Rattle.mount_table.specs.MountsText.{table_text}
use Rattle.mount_table.specs.SamePlaces.{HaveSamePlaces}
use Rattle.mount_table.specs.declared.mounts.Row.{Row}
use Rattle.mount_table.proofs.SamePlacesLemmas.{places_table}
use Rattle.disk_model.specs.Files.{Files, put}
use Rattle.disk_model.specs.Runs.{Leaves}
use Rattle.disk_model.proofs.FileLemmas.{put_apart, put_here}
use Rattle.disk_model.proofs.RunLemmas.{leaves_weaken}
use Rattle.pending_journal.specs.Change.{MayAdd, plan_in, puts_in}
use Rattle.pending_journal.specs.Redo.{IsBeforeOrAfter}
use Rattle.pending_journal.specs.Service.{is_service, is_service_rest}
use Rattle.pending_journal.specs.declared.change.Change.{Change}
use Rattle.cipher_port.specs.Tool.{Opens}
use Rattle.store_state.specs.Agrees.{Agrees}
use Rattle.store_state.specs.Opening.{IsFound}
use Rattle.store_state.specs.Places.{folder_mount, rule_file, template_file}
use Rattle.store_state.specs.State.{State, StandsFor, mounts_path}
use Rattle.store_state.specs.declared.opening.Found.{Found}
use Rattle.store_state.proofs.FolderFileLemmas.{not_higher}
use Rattle.store_state.proofs.FoundLemmas.{agreed_found}
use Rattle.store_state.proofs.KindLemmas.{rest_found}
use Rattle.store_state.proofs.SamePlaces.{agrees_moved, moved_stands}
use Rattle.store_state.proofs.SecretLemmas.{no_mounts_file}
use Rattle.store_state.proofs.StandsLemmas.{found_agrees, found_state, found_stands}
use Rattle.store_core.specs.Applying.{AreGood, IsChangeOf, Places, drops_of, places_of}
use Rattle.store_core.specs.Edit.{AreWritten, Differ, Entry, IsWithin, OfSecret, OfRule, OfTemplate, edited, paths_in, place}
use Rattle.store_core.specs.Elsewhere.{IsSameElsewhere}
use Rattle.store_core.specs.Moment.{Moment}
use Rattle.store_core.specs.Performs.{KeepsElsewhere}
use Rattle.store_core.specs.WithTable.{AreWrittenWithTable, FitsMounts, HasRoom, IsChangeWithTable, IsMadeWithTable, paths_with_table, places_with_table, with_table}
use Rattle.store_core.proofs.ApplyLemmas.{edited_state_stands}
use Rattle.store_core.proofs.ChangeOfLemmas.{drops_more, may_add_at, puts_more}
use Rattle.store_core.proofs.EditLemmas.{AreApart, edited_files, edited_written, paths_of, paths_same, places_apart, places_leave, plain_places, same_mounts, with_places}

-- ---- where the mounts file lies

-- it is no file of an entry
mounts_file_apart : (root : Text) (mounts : List Row) (entries : List Entry) → ¬ Contains (paths_in mounts entries) (mounts_path root)
mounts_file_apart root mounts [] (k, lt, is) = absurd (omega (arith, lt))
mounts_file_apart root mounts (entry ∷ entries) has = elim (first_or (place mounts entry) (paths_in mounts entries) (mounts_path root) has) [
  | inl same ↦ other entry same
  | inr more ↦ mounts_file_apart root mounts entries more
]
  where
    other : (entry : Entry) → place mounts entry ≢ mounts_path root
    other (OfSecret name file) = no_mounts_file root mounts name
    other (OfRule folder ids) = not_higher mounts (folder_mount mounts folder) folder rule_file root (codes ".gopass-mount") 115 (inl refl) (omega arith)
    other (OfTemplate folder file) = not_higher mounts (folder_mount mounts folder) folder template_file root (codes ".gopass-mount") 115 (inr refl) (omega arith)

-- and none of the vault's own
plain_mounts_file : (root : Text) → is_service root (mounts_path root) ≡ false
plain_mounts_file root = ap is_service_rest (rest_found root (codes ".gopass-mounts"))

-- ---- one place more

with_last : (places : Places) (path : Text) (file : Option Text) (files : Files) → with_places (places ++ (path, file) ∷ []) files ≡ put (with_places places files) path file
unfolding with_places
with_last [] path file files = refl
with_last (one ∷ places) path file files = with_last places path file (put files one.0 one.1)

paths_last : (places : Places) (path : Text) (file : Option Text) → paths_of (places ++ (path, file) ∷ []) ≡ paths_of places ++ path ∷ []
paths_last [] path file = refl
paths_last (one ∷ places) path file = ap (λ l. one.0 ∷ l) (paths_last places path file)

-- a text is among those with one more at the end
among_last : (paths : List Text) (last path : Text) → Contains (paths ++ last ∷ []) path → ¬ Contains (last ∷ paths) path → ⊥
among_last paths last path has none = elim (Contains-append_cases paths (last ∷ []) path has) [
  | inl front ↦ none (later last paths path front)
  | inr end ↦ elim (first_or last [] path end) [
    | inl same ↦ none (subst (Contains (last ∷ paths)) same (here last paths))
    | inr (k, lt, is) ↦ absurd (omega (arith, lt))
  ]
]

apart_last : (places : Places) (path : Text) (file : Option Text) → AreApart places → ¬ Contains (paths_of places) path → AreApart (places ++ (path, file) ∷ [])
apart_last [] path file apart none = (λ (k, lt, is). absurd (omega (arith, lt)), tt)
apart_last (one ∷ places) path file apart none = (
  λ has. among_last (paths_of places) path one.0 (subst (λ (l : List Text). Contains l one.0) (paths_last places path file) has) (λ more. elim (first_or path (paths_of places) one.0 more) [
    | inl same ↦ none (subst (Contains (one.0 ∷ paths_of places)) (sym same) (here one.0 (paths_of places)))
    | inr front ↦ apart.0 front
  ]),
  apart_last places path file apart.1 (λ has. none (later one.0 (paths_of places) path has)),
)

-- ---- the files

abbrev pub files_with : (root : Text) → List Row → List Entry → Option (List Row) → Files → Files
files_with root mounts entries table files = with_places (places_with_table root mounts entries table) files

module _ (root : Text) (mounts : List Row) (entries : List Entry) where
  pub places_with_apart : (table : Option (List Row)) → IsTable root mounts → AreGood entries → Differ entries → AreApart (places_with_table root mounts entries table)
  places_with_apart None is good differ = places_apart root mounts entries is good differ
  places_with_apart (Some rows) is good differ =
      apart_last (places_of mounts entries) (mounts_path root) (Some (table_text rows)) (places_apart root mounts entries is good differ)
      (λ has. mounts_file_apart root mounts entries (subst (λ (l : List Text). Contains l (mounts_path root)) (paths_same mounts entries) has))

  -- each other file is as it was
  pub with_apart : (table : Option (List Row)) (files : Files) (path : Text) → ¬ Contains (paths_with_table root mounts entries table) path → files_with root mounts entries table files path ≡ files path
  with_apart None files path out = places_leave (places_of mounts entries) files path (λ has. out (subst (λ (l : List Text). Contains l path) (paths_same mounts entries) has))
  with_apart (Some rows) files path out =
      ap (λ (f : Files). f path) (with_last (places_of mounts entries) (mounts_path root) (Some (table_text rows)) files)
      ∙ (put_apart (edited_files mounts entries files) (mounts_path root) path (Some (table_text rows)) (λ e. out (subst (Contains (mounts_path root ∷ paths_in mounts entries)) e (here (mounts_path root) (paths_in mounts entries))))
      ∙ places_leave (places_of mounts entries) files path (λ has. out (later (mounts_path root) (paths_in mounts entries) path (subst (λ (l : List Text). Contains l path) (paths_same mounts entries) has))))

  written_past : (some : List Entry) (files : Files) (path : Text) (file : Option Text) → ¬ Contains (paths_in mounts some) path → AreWritten mounts some files → AreWritten mounts some (put files path file)
  written_past [] files path file out done = tt
  written_past (entry ∷ some) files path file out done = (
    put_apart files path (place mounts entry) file (λ e. out (subst (Contains (place mounts entry ∷ paths_in mounts some)) (sym e) (here (place mounts entry) (paths_in mounts some)))) ∙ done.0,
    written_past some files path file (λ has. out (later (place mounts entry) (paths_in mounts some) path has)) done.1,
  )

  -- each file of theirs is as it is to be
  pub with_written : (table : Option (List Row)) (files : Files) → AreApart (places_of mounts entries) → AreWrittenWithTable root mounts entries table (files_with root mounts entries table files)
  with_written None files apart = edited_written mounts entries files apart
  with_written (Some rows) files apart = subst (λ (f : Files). AreWrittenWithTable root mounts entries (Some rows) f) (sym (with_last (places_of mounts entries) (mounts_path root) (Some (table_text rows)) files)) (
    put_here (edited_files mounts entries files) (mounts_path root) (Some (table_text rows)),
    written_past entries (edited_files mounts entries files) (mounts_path root) (Some (table_text rows)) (mounts_file_apart root mounts entries) (edited_written mounts entries files apart),
  )

  plain_paths : (table : Option (List Row)) (path : Text) → IsTable root mounts → AreGood entries → Contains (paths_with_table root mounts entries table) path → is_service root path ≡ false
  plain_paths None path is good has = plain_places root mounts entries path is good has
  plain_paths (Some rows) path is good has = elim (first_or (mounts_path root) (paths_in mounts entries) path has) [
    | inl same ↦ subst (λ (q : Text). is_service root q ≡ false) same (plain_mounts_file root)
    | inr more ↦ plain_places root mounts entries path is good more
  ]

  -- none of the vault's own is there
  pub with_none : (table : Option (List Row)) (files : Files) → IsTable root mounts → AreGood entries → ((path : Text) → is_service root path ≡ true → files path ≡ None) → (path : Text) → is_service root path ≡ true → files_with root mounts entries table files path ≡ None
  with_none table files is good none path own = with_apart table files path (λ has. false≢true (sym (plain_paths table path is good has) ∙ own)) ∙ none path own

-- ---- the state

-- the edited state, with the table
pub with_stands : (opens : Opens) (root : Text) (entries : List Entry) (table : Option (List Row)) (files : Files) (state : State) → FitsMounts state.mounts table → IsTable root state.mounts
    → StandsFor opens root (edited_files state.mounts entries files) (edited opens entries state) → StandsFor opens root (files_with root state.mounts entries table files) (with_table table (edited opens entries state))
with_stands opens root entries None files state fits is s = s
with_stands opens root entries (Some rows) files state fits is s =
    let kept = same_mounts opens entries state in
    subst (λ (f : Files). StandsFor opens root f (record (edited opens entries state) { mounts = rows })) (sym (with_last (places_of state.mounts entries) (mounts_path root) (Some (table_text rows)) files))
    (moved_stands opens root (edited_files state.mounts entries files) (Some (table_text rows)) (edited opens entries state) rows (subst (λ (l : List Row). HaveSamePlaces l rows) (sym kept) fits) (subst (IsTable root) (sym kept) is) refl s)

-- ---- what is found then

module _ (root : Text) (files : Files) (found : Found) (entries : List Entry) (good : AreGood entries) (short : length entries ≤ 16400)
    (fits : (opens : Opens) (start : State) → StandsFor opens root files start → IsWithin (edited opens entries start)) where
  -- whatever a tool opens
  abbrev nothing : Opens
  nothing = λ sealed. None

  few_counts : IsFound root files found → (k : ℕ) → slice_index_or found.counts.items k 0 ≤ 40000
  few_counts is k = elim (cases_lt k (length found.mounts)) [
    | inl inside ↦ (let (paths, tree, many) = is.survey.each k inside in (let few = tree.few in omega (arith, few, many)))
    | inr out ↦ (let beyond = get_or_past found.counts.items k 0 (omega (arith, out, is.survey.as_many)) in omega (arith, beyond))
  ]

  -- what is found has what the edited state with the table has
  agrees_with : (table : Option (List Row)) (next : Found) (start : State) → IsFound root files found → Agrees start found → IsMadeWithTable entries table found next → Agrees (with_table table (edited nothing entries start)) next
  agrees_with None next start is agrees foreseen = (foreseen.agrees nothing root start 40000 is.table (omega (arith, short)) (few_counts is) agrees).0
  agrees_with (Some rows) next start is agrees (made, foreseen, same) = subst (Agrees (record (edited nothing entries start) { mounts = rows })) (sym same)
      (agrees_moved (edited nothing entries start) made rows (foreseen.agrees nothing root start 40000 is.table (omega (arith, short)) (few_counts is) agrees).0)

  table_with : (table : Option (List Row)) (start : State) → FitsMounts start.mounts table → IsTable root start.mounts → IsTable root (with_table table (edited nothing entries start)).mounts
  table_with None start same is = subst (IsTable root) (sym (same_mounts nothing entries start)) is
  table_with (Some rows) start same is = places_table start.mounts rows same root is

  -- and that is a state for which the files stand
  found_applied : (table : Option (List Row)) (next : Found) (after : Files) → FitsMounts found.mounts table → IsMadeWithTable entries table found next → after ≡ files_with root found.mounts entries table files → IsFound root files found → IsFound root after next
  found_applied table next after same foreseen made is =
      let start = found_state nothing root files found is.table is in
      let stands = found_stands nothing root files found is.table is in
      let agrees = found_agrees nothing root files found is.table is in
      let own = subst (IsTable root) (sym agrees.mounts) is.table in
      let fit = subst (λ (rows : List Row). FitsMounts rows table) (sym agrees.mounts) same in
      let files_are : files_with root start.mounts entries table files ≡ after = ap (λ (rows : List Row). files_with root rows entries table files) agrees.mounts ∙ sym made in
      let now = with_stands nothing root entries table files start fit own (edited_state_stands nothing root entries files start good own stands (fits nothing start stands)) in
      agreed_found nothing root after (with_table table (edited nothing entries start)) (subst (λ (f : Files). StandsFor nothing root f (with_table table (edited nothing entries start))) files_are now) (table_with table start fit own)
      next (agrees_with table next start is agrees foreseen)

  pub merely_applied : (table : Option (List Row)) (next : Found) (after : Files) → FitsMounts found.mounts table → IsMadeWithTable entries table found next → after ≡ files_with root found.mounts entries table files → ∥ IsFound root files found ∥₁ → ∥ IsFound root after next ∥₁
  merely_applied table next after same foreseen made is = ∥∥₁_map is (found_applied table next after same foreseen made)

pub few_files : (entries : List Entry) (table : Option (List Row)) → HasRoom (length entries) table → length entries ≤ 16400
few_files entries None few = few
few_files entries (Some rows) few = omega (arith, few)

-- the root directory of the table
pub with_root : (table : Option (List Row)) (entries : List Entry) (old new : Found) → FitsMounts old.mounts table → IsMadeWithTable entries table old new → root_of new.mounts ≡ root_of old.mounts
with_root None entries old new same made = ap root_of made.mounts
with_root (Some rows) entries old new same (made, foreseen, is) = ap (λ (f : Found). root_of f.mounts) is ∙ same.dirs 0

-- ---- the change

pub may_add_table : (root : Text) (mounts : List Row) (entries : List Entry) (change : Change) → IsChangeOf root mounts entries change → length entries < 16400 → MayAdd change.root (plan_in change) (mounts_path root) {T = Unit {0}} (Ok tt)
may_add_table root mounts entries change of few = may_add_at root mounts entries change (mounts_path root) of (mounts_file_apart root mounts entries) (plain_mounts_file root) few

pub change_alone : (root : Text) (mounts : List Row) (entries : List Entry) (change : Change) → IsChangeOf root mounts entries change → IsChangeWithTable root mounts entries None change
change_alone root mounts entries change of = record { root_is = of.root_is; good = of.good; puts = of.puts; drops = of.drops }

pub change_more : (root : Text) (mounts : List Row) (entries : List Entry) (rows : List Row) (old new : Change) → IsChangeOf root mounts entries old → new.root ≡ old.root → puts_in new ≡ puts_in old ++ (mounts_path root, table_text rows) ∷ [] → new.drops.items ≡ old.drops.items → IsChangeWithTable root mounts entries (Some rows) new
change_more root mounts entries rows old new of same puts drops = record {
  root_is = same ∙ of.root_is;
  good = of.good;
  puts = puts ∙ (ap (λ l. l ++ (mounts_path root, table_text rows) ∷ []) of.puts ∙ sym (puts_more (places_of mounts entries) (mounts_path root) (Some (table_text rows))));
  drops = drops ∙ (of.drops ∙ sym (drops_more (places_of mounts entries) (mounts_path root) (Some (table_text rows)) ∙ append-nil (drops_of (places_of mounts entries))));
}

-- ---- each other file

module _ (root : Text) (paths : List Text) (after : Files) (old new : Moment) (apart : (other : Text) → ¬ Contains paths other → after other ≡ old.view.files other) (run : Leaves (IsBeforeOrAfter root old.view.files after) old.view new.view) where
  applied_elsewhere : Leaves (IsSameElsewhere root paths old.view.files) old.view new.view
  applied_elsewhere = leaves_weaken (IsBeforeOrAfter root old.view.files after) (IsSameElsewhere root paths old.view.files) old.view new.view each run
    where
      each : (m : Files) → IsBeforeOrAfter root old.view.files after m → IsSameElsewhere root paths old.view.files m
      each m (inl before) = (old.view.files, before, λ other out. refl)
      each m (inr made) = (after, made, apart)

  -- is as it was, where the edit was committed, and where that failed
  pub made_elsewhere : new.view.files ≡ after → KeepsElsewhere root paths old new
  made_elsewhere made = record { images = applied_elsewhere; files = λ free other out. ap (λ (f : Files). f other) made ∙ apart other out }

  pub stuck_elsewhere : new.stuck ≡ true → KeepsElsewhere root paths old new
  stuck_elsewhere stuck = record { images = applied_elsewhere; files = λ free other out. absurd (false≢true (sym free ∙ stuck)) }
