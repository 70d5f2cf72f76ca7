-- What an edit makes of the files, and of the state for which they stand.
use Rattle.std.proofs.Common.{◌≡◌, inl, inr, Bool, false, ◌||◌, List, [], ◌∷◌, ◌++◌, length, Option, Some, None, if◌then◌else◌, bytes_eq, refl, ap, sym, ◌∙◌, subst, arith, length-append}
use Rattle.std.specs.Prelude.{◌≤◌, ◌*◌, All, Contains, codes, is_some, option_map}
use Rattle.std.proofs.lemmas.List.Elements.{All-head, All-tail}
use Rattle.gopass_base.specs.Text.{Text, is_among}
use Rattle.gopass_base.proofs.ListLemmas.{here, later, first_or}
use Rattle.mount_table.specs.Mounts.{IsTable}
use Rattle.mount_table.specs.declared.mounts.Row.{Row}
use Rattle.disk_model.specs.Files.{Files, put}
use Rattle.disk_model.proofs.FileLemmas.{cases_path, put_apart, put_here, same_path, other_path}
use Rattle.std.proofs.Math.Path.{fun_ext}
use Rattle.pending_journal.specs.Change.{changed, puts_in, put_at}
use Rattle.pending_journal.specs.Service.{is_service}
use Rattle.pending_journal.specs.declared.change.Change.{Change}
use Rattle.recipient_files.specs.Ids.{Ids, IsId}
use Rattle.recipient_files.specs.RuleText.{rule_text}
use Rattle.recipient_files.proofs.WrittenLemmas.{written_again}
use Rattle.cipher_port.specs.Tool.{Opens}
use Rattle.store_state.specs.Places.{folder_mount, rule_file, template_file}
use Rattle.store_state.specs.RuleFiles.{IsRuleOf}
use Rattle.store_state.specs.State.{State}
use Rattle.store_state.proofs.FolderFileLemmas.{no_secret}
use Rattle.store_state.proofs.FolderMountLemmas.{folder_computed}
use Rattle.store_state.proofs.NameLemmas.{no_service}
use Rattle.store_state.proofs.RuleLemmas.{rule_path_differs, rule_no_service}
use Rattle.store_state.proofs.SecretLemmas.{secret_paths_same}
use Rattle.store_state.proofs.TemplateLemmas.{template_no_service}
use Rattle.store_core.specs.Edit.{AreOfOne, AreWritten, Differ, Entry, IsApartFrom, OfSecret, OfRule, OfTemplate, edited, file_of_entry, paths_in, place, with_entry}
use Rattle.store_core.specs.Applying.{AreGood, AreIds, IsGood, Places, drops_of, places_of, puts_of}
use Rattle.store_core.proofs.RuleStep.{rule_paths_same, rule_step}
use Rattle.store_core.proofs.StepLemmas.{Nearly, step_stands}
use Rattle.store_core.proofs.TemplateStep.{template_paths_same, template_step}

-- ---- where the files of entries lie

-- no file of an entry is one of the vault's own
pub plain_place : (root : Text) (mounts : List Row) (entry : Entry) → IsTable root mounts → IsGood entry → is_service root (place mounts entry) ≡ false
plain_place root mounts (OfSecret name file) table good = no_service root mounts name table good
plain_place root mounts (OfRule folder ids) table good = rule_no_service root mounts (folder_mount mounts folder) folder table (good.0, folder_computed root folder mounts table)
plain_place root mounts (OfTemplate folder file) table good = template_no_service root mounts (folder_mount mounts folder) folder table (good, folder_computed root folder mounts table)

-- one file is of one thing
pub one_place : (root : Text) (mounts : List Row) (a b : Entry) → IsTable root mounts → IsGood a → IsGood b → place mounts a ≡ place mounts b → AreOfOne a b
one_place root mounts (OfSecret a file) (OfSecret b other) table good_a good_b e = secret_paths_same root mounts a b table good_a good_b e
one_place root mounts (OfSecret a file) (OfRule b ids) table good_a good_b e = no_secret mounts (folder_mount mounts b) b rule_file a (inl refl) (sym e)
one_place root mounts (OfSecret a file) (OfTemplate b other) table good_a good_b e = no_secret mounts (folder_mount mounts b) b template_file a (inr refl) (sym e)
one_place root mounts (OfRule a ids) (OfSecret b file) table good_a good_b e = no_secret mounts (folder_mount mounts a) a rule_file b (inl refl) e
one_place root mounts (OfRule a ids) (OfRule b other) table good_a good_b e =
    rule_paths_same root mounts (folder_mount mounts a) (folder_mount mounts b) a b table (good_a.0, folder_computed root a mounts table) (good_b.0, folder_computed root b mounts table) e
one_place root mounts (OfRule a ids) (OfTemplate b file) table good_a good_b e = (rule_path_differs mounts (folder_mount mounts a) (folder_mount mounts b) a b []).0 e
one_place root mounts (OfTemplate a file) (OfSecret b other) table good_a good_b e = no_secret mounts (folder_mount mounts a) a template_file b (inr refl) e
one_place root mounts (OfTemplate a file) (OfRule b ids) table good_a good_b e = (rule_path_differs mounts (folder_mount mounts b) (folder_mount mounts a) b a []).0 (sym e)
one_place root mounts (OfTemplate a file) (OfTemplate b other) table good_a good_b e =
    template_paths_same root mounts (folder_mount mounts a) (folder_mount mounts b) a b table (good_a, folder_computed root a mounts table) (good_b, folder_computed root b mounts table) e

-- the file of an entry that is apart from others is none of theirs
pub place_apart : (root : Text) (mounts : List Row) (entry : Entry) (entries : List Entry) → IsTable root mounts → IsGood entry → AreGood entries → IsApartFrom entry entries → ¬ Contains (paths_in mounts entries) (place mounts entry)
place_apart root mounts entry [] table good others apart (k, lt, is) = absurd (omega (arith, lt))
place_apart root mounts entry (other ∷ entries) table good others apart has = elim (first_or (place mounts other) (paths_in mounts entries) (place mounts entry) has) [
  | inl same ↦ apart.0 (one_place root mounts entry other table good others.0 (sym same))
  | inr more ↦ place_apart root mounts entry entries table good others.1 apart.1 more
]

-- none of them is one of the vault's own
pub plain_places : (root : Text) (mounts : List Row) (entries : List Entry) (path : Text) → IsTable root mounts → AreGood entries → Contains (paths_in mounts entries) path → is_service root path ≡ false
plain_places root mounts [] path table good (k, lt, is) = absurd (omega (arith, lt))
plain_places root mounts (entry ∷ entries) path table good has = elim (first_or (place mounts entry) (paths_in mounts entries) path has) [
  | inl same ↦ subst (λ (q : Text). is_service root q ≡ false) same (plain_place root mounts entry table good.0)
  | inr more ↦ plain_places root mounts entries path table good.1 more
]

-- ---- the files

abbrev pub paths_of : Places → List Text
paths_of [] = []
paths_of (one ∷ places) = one.0 ∷ paths_of places

-- each path is there once
abbrev pub AreApart : Places → Type 0
AreApart [] = Unit {0}
AreApart (one ∷ places) = (¬ Contains (paths_of places) one.0) × AreApart places

-- the files with each of these made
unfoldable pub with_places : Places → Files → Files
with_places [] files = files
with_places (one ∷ places) files = with_places places (put files one.0 one.1)

-- each other file is as it was
pub places_leave : (places : Places) (files : Files) (path : Text) → ¬ Contains (paths_of places) path → with_places places files path ≡ files path
unfolding with_places
places_leave [] files path out = refl
places_leave (one ∷ places) files path out =
    places_leave places (put files one.0 one.1) path (λ has. out (later one.0 (paths_of places) path has))
    ∙ put_apart files one.0 path one.1 (λ e. out (subst (Contains (one.0 ∷ paths_of places)) e (here one.0 (paths_of places))))

-- ---- what the change makes of them

changed_by : List (Text × Text) → List Text → Files → Files
changed_by puts drops files path = if is_among drops path then None else put_at puts path (files path)

no_drop : (places : Places) (path : Text) → ¬ Contains (paths_of places) path → is_among (drops_of places) path ≡ false
no_drop [] path out = refl
no_drop ((at, Some bytes) ∷ places) path out = no_drop places path (λ has. out (later at (paths_of places) path has))
no_drop ((at, None) ∷ places) path out =
    ap (λ b. b || is_among (drops_of places) path) (other_path at path (λ e. out (subst (Contains (at ∷ paths_of places)) e (here at (paths_of places)))))
    ∙ no_drop places path (λ has. out (later at (paths_of places) path has))

changed_at : (places : Places) (files : Files) (path : Text) → AreApart places → changed_by (puts_of places) (drops_of places) files path ≡ with_places places files path
unfolding changed_by with_places
changed_at [] files path differ = refl
changed_at ((at, Some bytes) ∷ places) files path differ = elim (cases_path at path) [
  | inl same ↦ subst (λ (q : Text). (if is_among (drops_of places) q then None else if bytes_eq at q then Some bytes else put_at (puts_of places) q (files q)) ≡ with_places places (put files at (Some bytes)) q) same
      (ap (λ (b : Bool). if b then None else if bytes_eq at at then Some bytes else put_at (puts_of places) at (files at)) (no_drop places at differ.0)
      ∙ (ap (λ (b : Bool). if b then Some bytes else put_at (puts_of places) at (files at)) (same_path at)
      ∙ sym (places_leave places (put files at (Some bytes)) at differ.0 ∙ put_here files at (Some bytes))))
  | inr apart ↦ ap (λ (b : Bool). if is_among (drops_of places) path then None else if b then Some bytes else put_at (puts_of places) path (files path)) (other_path at path apart)
      ∙ (ap (λ (file : Option Text). if is_among (drops_of places) path then None else put_at (puts_of places) path file) (sym (put_apart files at path (Some bytes) apart))
      ∙ changed_at places (put files at (Some bytes)) path differ.1)
]
changed_at ((at, None) ∷ places) files path differ = elim (cases_path at path) [
  | inl same ↦ subst (λ (q : Text). (if bytes_eq at q || is_among (drops_of places) q then None else put_at (puts_of places) q (files q)) ≡ with_places places (put files at None) q) same
      (ap (λ (b : Bool). if b || is_among (drops_of places) at then None else put_at (puts_of places) at (files at)) (same_path at)
      ∙ sym (places_leave places (put files at None) at differ.0 ∙ put_here files at None))
  | inr apart ↦ ap (λ (b : Bool). if b || is_among (drops_of places) path then None else put_at (puts_of places) path (files path)) (other_path at path apart)
      ∙ (ap (λ (file : Option Text). if is_among (drops_of places) path then None else put_at (puts_of places) path file) (sym (put_apart files at path None apart))
      ∙ changed_at places (put files at None) path differ.1)
]

pub change_makes : (places : Places) (change : Change) (files : Files) → AreApart places → puts_in change ≡ puts_of places → change.drops.items ≡ drops_of places → changed change files ≡ with_places places files
unfolding changed changed_by
change_makes places change files differ puts drops = fun_ext (λ path. (λ i. if is_among (drops i) path then None else put_at (puts i) path (files path)) ∙ changed_at places files path differ)

-- ---- the same of entries

pub paths_same : (mounts : List Row) (entries : List Entry) → paths_of (places_of mounts entries) ≡ paths_in mounts entries
paths_same mounts [] = refl
paths_same mounts (entry ∷ entries) = ap (λ l. place mounts entry ∷ l) (paths_same mounts entries)

pub places_apart : (root : Text) (mounts : List Row) (entries : List Entry) → IsTable root mounts → AreGood entries → Differ entries → AreApart (places_of mounts entries)
places_apart root mounts [] table good differ = tt
places_apart root mounts (entry ∷ entries) table good differ = (
  λ has. place_apart root mounts entry entries table good.0 good.1 differ.0 (subst (λ (l : List Text). Contains l (place mounts entry)) (paths_same mounts entries) has),
  places_apart root mounts entries table good.1 differ.1,
)

abbrev pub edited_files : List Row → List Entry → Files → Files
edited_files mounts entries files = with_places (places_of mounts entries) files

pub edited_apart : (mounts : List Row) (entries : List Entry) (files : Files) (path : Text) → ¬ Contains (paths_in mounts entries) path → edited_files mounts entries files path ≡ files path
edited_apart mounts entries files path out = places_leave (places_of mounts entries) files path (λ has. out (subst (λ (l : List Text). Contains l path) (paths_same mounts entries) has))

-- each file of theirs is as it is to be
pub edited_written : (mounts : List Row) (entries : List Entry) (files : Files) → AreApart (places_of mounts entries) → AreWritten mounts entries (edited_files mounts entries files)
unfolding with_places
edited_written mounts [] files apart = tt
edited_written mounts (entry ∷ entries) files apart =
    let path = place mounts entry in
    let file = file_of_entry entry in
    (places_leave (places_of mounts entries) (put files path file) path apart.0 ∙ put_here files path file, edited_written mounts entries (put files path file) apart.1)

-- ---- the state

-- a rule file that is written is short
rule_length : (ids : Ids) → All IsId ids → length (rule_text ids) ≤ 201 * length ids
rule_length [] all = omega arith
rule_length (id ∷ ids) all =
    let good = All-head IsId id ids all in
    let more = rule_length ids (All-tail IsId id ids all) in
    omega (arith, good.short, more, length-append (id ++ codes "\n") (rule_text ids), length-append id (codes "\n"))

rule_of_entry : (ids : Option Ids) → AreIds ids → IsRuleOf (option_map rule_text ids) ids × (is_some (option_map rule_text ids) ≡ is_some ids)
rule_of_entry None good = (refl, refl)
rule_of_entry (Some ids) good = (record { short = (let long = rule_length ids good.each in let few = good.few in omega (arith, long, few)); rule = written_again ids good }, refl)

pub entry_step : (opens : Opens) (root : Text) (files : Files) (state : State) (entry : Entry) → Nearly opens root files state → IsTable root state.mounts → IsGood entry
    → Nearly opens root (put files (place state.mounts entry) (file_of_entry entry)) (with_entry opens entry state)
entry_step opens root files state (OfSecret name file) s table good = step_stands opens root files (put files (place state.mounts (OfSecret name file)) file) state name file s table good refl
entry_step opens root files state (OfRule folder ids) s table good =
    let told = rule_of_entry ids good.1 in
    rule_step opens root files (put files (place state.mounts (OfRule folder ids)) (option_map rule_text ids)) state folder ids (option_map rule_text ids) s table good.0 told.0 told.1 refl
entry_step opens root files state (OfTemplate folder file) s table good = template_step opens root files (put files (place state.mounts (OfTemplate folder file)) file) state folder file s table good refl

-- no entry changes the mounts
entry_mounts : (opens : Opens) (entry : Entry) (state : State) → (with_entry opens entry state).mounts ≡ state.mounts
entry_mounts opens (OfSecret name file) state = refl
entry_mounts opens (OfRule folder ids) state = refl
entry_mounts opens (OfTemplate folder file) state = refl

pub same_mounts : (opens : Opens) (entries : List Entry) (state : State) → (edited opens entries state).mounts ≡ state.mounts
same_mounts opens [] state = refl
same_mounts opens (entry ∷ entries) state = same_mounts opens entries (with_entry opens entry state) ∙ entry_mounts opens entry state

pub edited_stands : (opens : Opens) (root : Text) (entries : List Entry) (files : Files) (state : State) → AreGood entries → IsTable root state.mounts → Nearly opens root files state
    → Nearly opens root (edited_files state.mounts entries files) (edited opens entries state)
unfolding with_places
edited_stands opens root [] files state good table s = s
edited_stands opens root (entry ∷ entries) files state good table s =
    let mounts = entry_mounts opens entry state in
    subst (λ (rows : List Row). Nearly opens root (edited_files rows entries (put files (place state.mounts entry) (file_of_entry entry))) (edited opens entries (with_entry opens entry state))) mounts
    (edited_stands opens root entries (put files (place state.mounts entry) (file_of_entry entry)) (with_entry opens entry state) good.1 (subst (IsTable root) (sym mounts) table) (entry_step opens root files state entry s table good.0))

pub edited_then : (opens : Opens) (xs ys : List Entry) (state : State) → edited opens (xs ++ ys) state ≡ edited opens ys (edited opens xs state)
edited_then opens [] ys state = refl
edited_then opens (entry ∷ xs) ys state = edited_then opens xs ys (with_entry opens entry state)
