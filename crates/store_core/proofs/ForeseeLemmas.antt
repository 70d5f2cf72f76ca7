-- What is found once entries are made is what the edited state has.
use Rattle.std.proofs.Common.{◌≡◌, inl, inr, ℕ, ◌+◌, ◌-◌, ◌<◌, ◌≤◌, Bool, true, false, List, [], ◌∷◌, ◌++◌, length, slice_index_or, set, Option, Some, None, refl, ap, sym, ◌∙◌, subst, arith, length-append}
use Rattle.std.specs.Prelude.{is_some, option_map, Vec, Result, Ok, Err, OnOk}
use Rattle.std.specs.FinMap.{nat_cmp-IsAntisymmetric, slice_cmp-IsAntisymmetric}
use Rattle.std.proofs.lemmas.Cmp.{nat_list_cmp_total}
use Rattle.disk_model.proofs.FileLemmas.{cases_path}
use Rattle.store_core.proofs.StepLemmas.{row_apart, row_here}
use Rattle.std.specs.FinMap as map
use Rattle.std.specs.Ordering.{nat_cmp}
use Rattle.std.specs.Cmp.Lexicographic.{slice_cmp}
use Rattle.std.proofs.Math.Seq.{set_out}
use Rattle.std.proofs.lemmas.Bool.{cases_eq, cases_lt}
use Rattle.std.proofs.lemmas.List.{get_or-set_same, get_or-set_other}
use Rattle.gopass_base.specs.Text.{Text}
use Rattle.gopass_base.specs.Order.{IsRising}
use Rattle.mount_table.specs.Mounts.{IsMountOf, IsMountOfFolder, IsTable}
use Rattle.mount_table.specs.MountOf.{mount_of}
use Rattle.mount_table.specs.declared.mounts.Row.{Row}
use Rattle.mount_table.proofs.MountLemmas.{one_row}
use Rattle.mount_table.proofs.MountOfLemmas.{mount_computed}
use Rattle.recipient_files.specs.Ids.{Ids}
use Rattle.path_rules.specs.RuleMap.{RuleMap, rule_at}
use Rattle.path_rules.specs.Changes.{UnsetsRule}
use Rattle.path_rules.specs.declared.rules.Absent.{Absent}
use Rattle.store_state.specs.Agrees.{Agrees}
use Rattle.store_state.specs.Found.{IsSameSeen}
use Rattle.store_state.specs.Places.{folder_mount}
use Rattle.store_state.specs.State.{State, cell_of}
use Rattle.store_state.specs.declared.opening.Found.{Found}
use Rattle.store_state.proofs.FolderMountLemmas.{folder_computed}
use Rattle.store_state.proofs.KindLemmas.{one_folder_row}
use Rattle.store_core.specs.Edit.{Entry, OfSecret, OfRule, OfTemplate, edited, resized, with_row}
use Rattle.store_core.specs.Entries.{text_in}
use Rattle.store_core.specs.Applying.{AreFew, IsMadeBy, IsSetAmong}
use Rattle.store_core.proofs.EditLemmas.{edited_then}
use Rattle.store_core.proofs.KeysLemmas.{set_keys, set_rises}

-- ---- the numbers of files

pub few_set : (counts : List ℕ) (row n most : ℕ) → AreFew counts most → n ≤ most + 1 → AreFew (set counts row n) (most + 1)
few_set counts row n most few le k = elim (cases_eq k row) [
  | inl same ↦ elim (cases_lt row (length counts)) [
    | inl inside ↦ subst (λ m. m ≤ most + 1) (sym (ap (λ j. slice_index_or (set counts row n) j 0) same ∙ get_or-set_same counts row n 0 inside)) le
    | inr out ↦ subst (λ (l : List ℕ). slice_index_or l k 0 ≤ most + 1) (sym (set_out counts row n out)) (let f = few k in omega (arith, f))
  ]
  | inr apart ↦ subst (λ m. m ≤ most + 1) (sym (get_or-set_other counts row k n 0 apart)) (let f = few k in omega (arith, f))
]

pub few_more : (counts : List ℕ) (most : ℕ) → AreFew counts most → AreFew counts (most + 1)
few_more counts most few k = (let f = few k in omega (arith, f))

few_resized : (was is : Bool) (row : ℕ) (counts : List ℕ) (most : ℕ) → AreFew counts most → AreFew (resized was is row counts) (most + 1)
few_resized true true row counts most few = few_more counts most few
few_resized true false row counts most few = few_set counts row (slice_index_or counts row 0 - 1) most few (let f = few row in omega (arith, f))
few_resized false true row counts most few = few_set counts row (slice_index_or counts row 0 + 1) most few (let f = few row in omega (arith, f))
few_resized false false row counts most few = few_more counts most few

-- ---- one entry

-- the numbers of files afterwards, where they are no greatest numbers
abbrev pub CountsAre : (old new : Found) → ℕ → (was is : Bool) → Type 0
CountsAre old new row was is = slice_index_or old.counts.items row 0 < 18446744073709551615 → new.counts.items ≡ resized was is row old.counts.items

module _ (old new : Found) (row : ℕ) (was is : Bool) (counts : CountsAre old new row was is) where
  sizes_now : (most : ℕ) → most + 1 < 18446744073709551615 → AreFew old.counts.items most → new.counts.items ≡ resized was is row old.counts.items
  sizes_now most lt few = (let f = few row in counts (omega (arith, f, lt)))

  few_now : (most : ℕ) → most + 1 < 18446744073709551615 → AreFew old.counts.items most → AreFew new.counts.items (most + 1)
  few_now most lt few = subst (λ (l : List ℕ). AreFew l (most + 1)) (sym (sizes_now most lt few)) (few_resized was is row old.counts.items most few)

pub made_secret : (old new : Found) (name : Text) (file : Option Text) (row : ℕ) (was : Bool) → new.mounts ≡ old.mounts → new.rules ≡ old.rules → new.seen.rules.items ≡ old.seen.rules.items → new.seen.templates.items ≡ old.seen.templates.items
    → new.seen.strange.items ≡ old.seen.strange.items → new.seen.shadowed.items ≡ old.seen.shadowed.items → IsMountOf old.mounts name row → IsSetAmong (slice_cmp nat_cmp) old.seen.names.items new.seen.names.items name (is_some file) was
    → CountsAre old new row was (is_some file) → IsMadeBy (OfSecret name file ∷ []) old new
made_secret old new name file row was mounts rules folders templates strange shadowed own set counts = record {
  mounts = mounts;
  rising = λ up. set_rises old.seen.names.items new.seen.names.items name (is_some file) was up set;
  agrees = λ opens root state most table lt few a. (
      let keys = set_keys state.rows old.seen.names.items new.seen.names.items name (option_map (cell_of opens) file) (is_some file) was a.names (some_mapped (cell_of opens) file) set in
      let row_is : mount_of state.mounts name ≡ row = ap (λ (rows : List Row). mount_of rows name) a.mounts ∙ one_row root name old.mounts (mount_of old.mounts name) row table (mount_computed root name old.mounts table) own in (
        record {
          mounts = a.mounts ∙ sym mounts;
          rules = a.rules ∙ sym rules;
          names = keys.0;
          folders = a.folders ∙ sym folders;
          templates = a.templates ∙ sym templates;
          strange = a.strange ∙ sym strange;
          shadowed = a.shadowed ∙ sym shadowed;
          sizes = (λ i. resized (keys.1 i) (is_some file) (row_is i) (a.sizes i)) ∙ sym (sizes_now old new row was (is_some file) counts most lt few);
        },
        few_now old new row was (is_some file) counts most lt few,
      )
      );
}
  where
    some_mapped : {X : Type 0} (f : Text → X) (file : Option Text) → is_some (option_map f file) ≡ is_some file
    some_mapped f None = refl
    some_mapped f (Some bytes) = refl

module _ (old new : Found) (folder : Text) (row : ℕ) (was : Bool) (mounts : new.mounts ≡ old.mounts) (names : new.seen.names.items ≡ old.seen.names.items)
    (strange : new.seen.strange.items ≡ old.seen.strange.items) (shadowed : new.seen.shadowed.items ≡ old.seen.shadowed.items) (own : IsMountOfFolder old.mounts folder row) where
  mount_is : (root : Text) (state : State) → IsTable root old.mounts → state.mounts ≡ old.mounts → folder_mount state.mounts folder ≡ row
  mount_is root state table same = ap (λ (rows : List Row). folder_mount rows folder) same ∙ one_folder_row root folder old.mounts (folder_mount old.mounts folder) row table (folder_computed root folder old.mounts table) own

  pub made_rule : (ids : Option Ids) → new.rules ≡ with_row old.rules folder ids → new.seen.templates.items ≡ old.seen.templates.items
      → IsSetAmong (slice_cmp nat_cmp) old.seen.rules.items new.seen.rules.items folder (is_some ids) was → CountsAre old new row was (is_some ids) → IsMadeBy (OfRule folder ids ∷ []) old new
  made_rule ids rules templates set counts = record {
    mounts = mounts;
    rising = λ up. subst IsRising (sym names) up;
    agrees = λ opens root state most table lt few a. (
        let keys = set_keys state.rules old.seen.rules.items new.seen.rules.items folder ids (is_some ids) was a.folders refl set in
        let row_is = mount_is root state table a.mounts in (
          record {
            mounts = a.mounts ∙ sym mounts;
            rules = ap (λ (r : RuleMap). with_row r folder ids) a.rules ∙ sym rules;
            names = a.names ∙ sym names;
            folders = keys.0;
            templates = a.templates ∙ sym templates;
            strange = a.strange ∙ sym strange;
            shadowed = a.shadowed ∙ sym shadowed;
            sizes = (λ i. resized (keys.1 i) (is_some ids) (row_is i) (a.sizes i)) ∙ sym (sizes_now old new row was (is_some ids) counts most lt few);
          },
          few_now old new row was (is_some ids) counts most lt few,
        )
        );
  }

  pub made_template : (file : Option Text) → new.rules ≡ old.rules → new.seen.rules.items ≡ old.seen.rules.items
      → IsSetAmong (slice_cmp nat_cmp) old.seen.templates.items new.seen.templates.items folder (is_some file) was → CountsAre old new row was (is_some file) → IsMadeBy (OfTemplate folder file ∷ []) old new
  made_template file rules folders set counts = record {
    mounts = mounts;
    rising = λ up. subst IsRising (sym names) up;
    agrees = λ opens root state most table lt few a. (
        let keys = set_keys state.templates old.seen.templates.items new.seen.templates.items folder file (is_some file) was a.templates refl set in
        let row_is = mount_is root state table a.mounts in (
          record {
            mounts = a.mounts ∙ sym mounts;
            rules = a.rules ∙ sym rules;
            names = a.names ∙ sym names;
            folders = a.folders ∙ sym folders;
            templates = keys.0;
            strange = a.strange ∙ sym strange;
            shadowed = a.shadowed ∙ sym shadowed;
            sizes = (λ i. resized (keys.1 i) (is_some file) (row_is i) (a.sizes i)) ∙ sym (sizes_now old new row was (is_some file) counts most lt few);
          },
          few_now old new row was (is_some file) counts most lt few,
        )
        );
  }

-- ---- what `unset` makes of rules

-- taking away what is not there changes nothing
remove_none : (rules : RuleMap) (folder : Text) → rule_at rules folder ≡ None → rules ≡ map.remove rules folder
remove_none rules folder none = map.same_map nat_list_cmp_total (slice_cmp-IsAntisymmetric nat_cmp-IsAntisymmetric) rules (map.remove rules folder) (λ q. elim (cases_path folder q) [
  | inl same ↦ subst (λ (t : Text). map.get rules t ≡ map.get (map.remove rules folder) t) same (none ∙ sym (row_here rules folder None))
  | inr apart ↦ sym (row_apart rules folder q None apart)
])

pub unset_gives : (rules new : RuleMap) (folder : Text) (r : Result Ids Absent) → UnsetsRule folder rules new r → new ≡ map.remove rules folder
unset_gives rules new folder (Ok ids) is = is.1
unset_gives rules new folder (Err absent) is = is.1 ∙ remove_none rules folder is.0

-- ---- one after the other

-- a copy is what no entry makes
pub made_none : (old new : Found) → new.mounts ≡ old.mounts → new.rules ≡ old.rules → IsSameSeen old.seen new.seen → new.counts.items ≡ old.counts.items → IsMadeBy [] old new
made_none old new mounts rules seen counts = record {
  mounts = mounts;
  rising = λ up. subst IsRising (sym seen.names) up;
  agrees = λ opens root state most table lt few a. (
    record {
      mounts = a.mounts ∙ sym mounts;
      rules = a.rules ∙ sym rules;
      names = a.names ∙ sym seen.names;
      folders = a.folders ∙ sym seen.rules;
      templates = a.templates ∙ sym seen.templates;
      strange = a.strange ∙ sym seen.strange;
      shadowed = a.shadowed ∙ sym seen.shadowed;
      sizes = a.sizes ∙ sym counts;
    },
    λ k. (let f = few k in omega (arith, f, ap (λ (l : List ℕ). slice_index_or l k 0) counts)),
  );
}

pub made_then : (xs ys : List Entry) (a b c : Found) → IsMadeBy xs a b → IsMadeBy ys b c → IsMadeBy (xs ++ ys) a c
made_then xs ys a b c first second = record {
  mounts = second.mounts ∙ first.mounts;
  rising = λ up. second.rising (first.rising up);
  agrees = λ opens root state most table lt few agree. (
      let many = length-append xs ys in
      let mid = first.agrees opens root state most table (omega (arith, lt, many)) few agree in
      let end = second.agrees opens root (edited opens xs state) (most + length xs) (subst (IsTable root) (sym first.mounts) table) (omega (arith, lt, many)) mid.1 mid.0 in
      (subst (λ (s : State). Agrees s c) (sym (edited_then opens xs ys state)) end.0, λ k. (let f = end.1 k in omega (arith, f, many)))
      );
}

-- one entry more of a list
pub made_more : (before now : List Entry) (entry : Entry) (a b c : Found) → now ≡ before ++ entry ∷ [] → IsMadeBy before a b → IsMadeBy (entry ∷ []) b c → IsMadeBy now a c
made_more before now entry a b c is first second = subst (λ (es : List Entry). IsMadeBy es a c) (sym is) (made_then before (entry ∷ []) a b c first second)

-- what holds of an answer that is none, or follows from it
pub where_ok : {T E P Q : Type 0} (r : Result T E) → (P → Q) → OnOk r P → OnOk r Q
where_ok (Ok done) f has = f has
where_ok (Err fault) f has = tt

pub some_text : {A : Type 0} (bytes : Option (Vec ℕ A)) → is_some (text_in bytes) ≡ is_some bytes
some_text None = refl
some_text (Some bytes) = refl
