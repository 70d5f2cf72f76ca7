-- The limits of an edited state, by what is found.
use Rattle.std.proofs.Common.{◌≡◌, ℕ, zero, suc, ◌<◌, ◌≤◌, Bool, true, false, ◌||◌, List, [], ◌∷◌, length, None, Some, inl, inr, refl, ap, sym, ◌∙◌, subst, arith}
use Rattle.std.specs.Prelude.{Result, Ok, Err, nat_lt, slice_index_or, if◌then◌else◌}
use Rattle.std.specs.FinMap as map
use Rattle.std.specs.List.{list_any}
use Rattle.std.proofs.lemmas.Bool.{cases_lt}
use Rattle.std.proofs.lemmas.Bool.Decides.{nat_tests}
use Rattle.std.proofs.lemmas.List.{get_or_past}
use Rattle.gopass_base.specs.Text.{Text}
use Rattle.mount_table.specs.Mounts.{IsTable, root_of}
use Rattle.disk_model.specs.Files.{Files as DiskFiles}
use Rattle.cipher_port.specs.Tool.{Opens}
use Rattle.store_state.specs.declared.fault.Limit.TheVariants.{Rules, Secrets, Files}
use Rattle.store_state.specs.declared.opening.Found.{Found}
use Rattle.store_state.specs.Opening.{IsFound}
use Rattle.store_state.specs.State.{State, StandsFor}
use Rattle.store_state.proofs.AgreeLemmas.{agrees, table_agrees}
use Rattle.store_state.proofs.KeyLemmas.{length-keys}
use Rattle.store_core.specs.Applying.{IsMadeBy}
use Rattle.store_core.specs.Edit.{Entry, IsWithin, edited, limit_among, limit_in}

-- ---- no limit is passed

not_over : (most n : ℕ) → nat_lt most n ≡ false → n ≤ most
not_over most n e = grind (arith, nat_tests)

none_over : (counts : List ℕ) → list_any (λ count. nat_lt 40000 count) counts ≡ false → (k : ℕ) → k < length counts → slice_index_or counts k 0 ≤ 40000
none_over [] none k lt = absurd (omega (arith, lt))
none_over (count ∷ counts) none k lt = by (nat_lt 40000 count) refl (none_over counts) k lt
  where
    by : (over : Bool) → nat_lt 40000 count ≡ over → (list_any (λ count. nat_lt 40000 count) counts ≡ false → (k : ℕ) → k < length counts → slice_index_or counts k 0 ≤ 40000)
        → (k : ℕ) → k < suc (length counts) → slice_index_or (count ∷ counts) k 0 ≤ 40000
    by true is more k lt = absurd (let bad : true ≡ false = sym (ap (λ b. b || list_any (λ count. nat_lt 40000 count) counts) is) ∙ none in cc)
    by false is more zero lt = not_over 40000 count is
    by false is more (suc k) lt = more (sym (ap (λ b. b || list_any (λ count. nat_lt 40000 count) counts) is) ∙ none) k (omega (arith, lt))

pub none_within : (state : State) → limit_in state ≡ None → IsWithin state
none_within state none = by (list_any (λ count. nat_lt 40000 count) state.sizes) (nat_lt 512 (map.len state.rules)) (nat_lt 8192 (map.len state.rows)) refl refl refl none
  where
    by : (files rules rows : Bool) → list_any (λ count. nat_lt 40000 count) state.sizes ≡ files → nat_lt 512 (map.len state.rules) ≡ rules → nat_lt 8192 (map.len state.rows) ≡ rows
        → (if files then Some Files else if rules then Some Rules else if rows then Some Secrets else None) ≡ None → IsWithin state
    by true rules rows f r s e = absurd (cc)
    by false true rows f r s e = absurd (cc)
    by false false true f r s e = absurd (cc)
    by false false false f r s e = record {
      few_rules = not_over 512 (map.len state.rules) r;
      few_secrets = not_over 8192 (map.len state.rows) s;
      few_files = λ k lt. elim (cases_lt k (length state.sizes)) [
        | inl inside ↦ none_over state.sizes f k inside
        | inr out ↦ (let beyond = get_or_past state.sizes k 0 (omega (arith, out)) in omega (arith, beyond))
      ];
    }

-- ---- what is foreseen of an edit

module _ (opens : Opens) (root : Text) (files : DiskFiles) (found : Found) (state : State) (is : ∥ IsFound root files found ∥₁) (stands : StandsFor opens root files state) (table : IsTable (root_of found.mounts) found.mounts) where
  few_counts : (k : ℕ) → slice_index_or found.counts.items k 0 ≤ 40000
  few_counts k = subst (λ (sizes : List ℕ). slice_index_or sizes k 0 ≤ 40000) (agrees opens root files found state is stands).sizes (elim (cases_lt k (length state.mounts)) [
    | inl inside ↦ (let (paths, tree, many) = stands.sizes_are.each k inside in (let few = tree.few in omega (arith, few, many)))
    | inr out ↦ (let beyond = get_or_past state.sizes k 0 (omega (arith, out, stands.sizes_are.as_many)) in omega (arith, beyond))
  ])

  -- the limit that it passes is that of the edited state
  pub foreseen_limit : (entries : List Entry) (next : Found) → length entries ≤ 16400 → IsMadeBy entries found next
      → limit_among (length next.seen.rules.items) (length next.seen.names.items) next.counts.items ≡ limit_in (edited opens entries state)
  foreseen_limit entries next few made =
      let here = (made.agrees opens root state 40000 (table_agrees opens root files found state is stands table) (omega (arith, few)) few_counts (agrees opens root files found state is stands)).0 in
      let last = edited opens entries state in
      let rules : length next.seen.rules.items ≡ map.len last.rules = sym (length-keys last.rules ∙ ap length here.folders) in
      let rows : length next.seen.names.items ≡ map.len last.rows = sym (length-keys last.rows ∙ ap length here.names) in
      let sizes = sym here.sizes in
      λ i. limit_among (rules i) (rows i) (sizes i)

pub ok_is : {T E : Type 0} (x y : T) → ◌≡◌ {A = Result T E} (Ok x) (Ok y) → x ≡ y
ok_is {T} {E} x y is = ap (value x) is
  where
    value : T → Result T E → T
    value other (Ok x) = x
    value other (Err e) = other
