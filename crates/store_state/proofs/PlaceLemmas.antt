-- A text comes into a list in rising order, at its place.
use Rattle.std.proofs.Common.{◌≡◌, ◌⊎◌, inl, inr, ℕ, zero, suc, ◌+◌, ◌<◌, ◌≤◌, List, [], ◌∷◌, ◌++◌, length, get_or, take, drop, Err, refl, ap, sym, ◌∙◌, subst, arith, take-append-drop}
use Rattle.std.specs.Prelude.{◌↔◌, Contains}
use Rattle.std.specs.List.{insert}
use Rattle.std.specs.List.Sorted.{IsBinarySearchResult, IsSearchInRange}
use Rattle.std.specs.Ordering.{nat_cmp, ordering_reverse}
use Rattle.std.specs.declared.cmp.Ordering.{Ordering}
use Rattle.std.specs.declared.cmp.Ordering.TheVariants.{Less, Equal, Greater}
use Rattle.std.specs.Cmp.Lexicographic.{slice_cmp}
use Rattle.std.proofs.lemmas.Bool.{cases_lt, cases_eq}
use Rattle.std.proofs.lemmas.Cmp.{nat_list_cmp_total, tied_itself}
use Rattle.std.proofs.lemmas.List.Edits.{length-insert, get_or-insert_below, get_or-insert_at, get_or-insert_above}
use Rattle.std.proofs.lemmas.List.Elements.{Contains-append_left, Contains-append_right, Contains-append_cases}
use Rattle.std.proofs.lemmas.List.Sorted.{searchable_from_sorted}
use Rattle.std.proofs.lemmas.Map.Keys.{Less-from_sorted, sorted_from_all_adjacent, sorted_tail}
use Rattle.std.proofs.lemmas.Map.Lookups.{exact_bytes}
use Rattle.gopass_base.specs.Text.{Text}
use Rattle.gopass_base.specs.Order.{IsRising}
use Rattle.gopass_base.proofs.ListLemmas.{later, first_or}
use Rattle.gopass_base.proofs.OrderLemmas.{sorted}

-- the place of a text that is not there: those before it are below the text, and those from there on above
pub record IsPlace (texts : List Text) (at : ℕ) (text : Text) : Type 0 where
  pub inside : at ≤ length texts
  pub before : (k : ℕ) (d : Text) → k < at → slice_cmp nat_cmp (get_or texts k d) text ≡ Less
  pub behind : (k : ℕ) (d : Text) → at ≤ k → k < length texts → slice_cmp nat_cmp (get_or texts k d) text ≡ Greater

-- ---- where it is

turned : (a b : Text) (o : Ordering) → slice_cmp nat_cmp a b ≡ o → slice_cmp nat_cmp b a ≡ ordering_reverse o
turned a b o e = nat_list_cmp_total.antisymm b a ∙ ap ordering_reverse e

-- the place that a search tells
pub place_by_search : (texts : List Text) (text : Text) (at : ℕ) → IsRising texts → IsSearchInRange (Err at) (length texts) → IsBinarySearchResult (λ (y : Text). slice_cmp nat_cmp y text) texts (Err at) → IsPlace texts at text
place_by_search texts text at up bound place =
    let parts = place (searchable_from_sorted nat_list_cmp_total (λ (f : Text). f) texts text (sorted texts up)) in
    record { inside = bound; before = λ k d lt. parts.0 k d (omega arith) lt; behind = λ k d from lt. parts.1 k d from lt }

-- a text that is not there has a place
pub place_of : (texts : List Text) (text : Text) → IsRising texts → ¬ Contains texts text → (at : ℕ) × IsPlace texts at text
place_of [] text up out = (0, record { inside = omega arith; before = λ k d lt. absurd (omega (arith, lt)); behind = λ k d from lt. absurd (omega (arith, lt)) })
place_of (x ∷ texts) text up out = by (slice_cmp nat_cmp x text) refl (place_of texts text (sorted_tail (slice_cmp nat_cmp) x texts up) (λ has. out (later x texts text has)))
  where
    above : (k : ℕ) (d : Text) → k < suc (length texts) → slice_cmp nat_cmp x text ≡ Greater → slice_cmp nat_cmp (get_or (x ∷ texts) k d) text ≡ Greater
    above zero d lt e = e
    above (suc k) d lt e = turned text (get_or texts k d) Less (nat_list_cmp_total.trans text x (get_or texts k d) (turned x text Greater e) (Less-from_sorted (slice_cmp nat_cmp) (x ∷ texts) 0 (suc k) d up (omega arith) lt))

    below : (at k : ℕ) (d : Text) → IsPlace texts at text → k < suc at → slice_cmp nat_cmp x text ≡ Less → slice_cmp nat_cmp (get_or (x ∷ texts) k d) text ≡ Less
    below at zero d place lt e = e
    below at (suc k) d place lt e = place.before k d (omega (arith, lt))

    behind : (at k : ℕ) (d : Text) → IsPlace texts at text → suc at ≤ k → k < suc (length texts) → slice_cmp nat_cmp (get_or (x ∷ texts) k d) text ≡ Greater
    behind at zero d place from lt = absurd (omega (arith, from))
    behind at (suc k) d place from lt = place.behind k d (omega (arith, from)) (omega (arith, lt))

    by : (o : Ordering) → slice_cmp nat_cmp x text ≡ o → (at : ℕ) × IsPlace texts at text → (at : ℕ) × IsPlace (x ∷ texts) at text
    by Less e (at, place) = (let within = place.inside in (suc at, record { inside = omega (arith, within); before = λ k d lt. below at k d place lt e; behind = λ k d from lt. behind at k d place from lt }))
    by Equal e more = absurd (out (0, omega arith, exact_bytes x text e))
    by Greater e more = (0, record { inside = omega arith; before = λ k d lt. absurd (omega (arith, lt)); behind = λ k d from lt. above k d lt e })

-- a text that has a place is not there
pub place_is_new : (texts : List Text) (at : ℕ) (text : Text) → IsPlace texts at text → ¬ Contains texts text
place_is_new texts at text place (k, lt, is) = elim (cases_lt k at) [
  | inl low ↦ untied (slice_cmp nat_cmp (get_or texts k text) text) tied (inl (place.before k text low))
  | inr from ↦ untied (slice_cmp nat_cmp (get_or texts k text) text) tied (inr (place.behind k text from lt))
]
  where
    tied : slice_cmp nat_cmp (get_or texts k text) text ≡ Equal
    tied = subst (λ (t : Text). slice_cmp nat_cmp t text ≡ Equal) (sym is) (tied_itself nat_list_cmp_total text)

    untied : (o : Ordering) → o ≡ Equal → (o ≡ Less) ⊎ (o ≡ Greater) → ⊥
    untied o e (inl less) = (let same : Equal ≡ Less = sym e ∙ less in cc)
    untied o e (inr greater) = (let same : Equal ≡ Greater = sym e ∙ greater in cc)

-- ---- with it

-- the list still rises
pub inserted_rising : (texts : List Text) (at : ℕ) (text : Text) → IsRising texts → IsPlace texts at text → IsRising (insert texts at text)
inserted_rising texts at text up place = sorted_from_all_adjacent nat_list_cmp_total (insert texts at text) text (λ k lt. next k (omega (arith, lt, length-insert texts at text place.inside)))
  where
    is : (a b : Text) (k m : ℕ) → get_or (insert texts at text) k text ≡ a → get_or (insert texts at text) m text ≡ b → slice_cmp nat_cmp a b ≡ Less → slice_cmp nat_cmp (get_or (insert texts at text) k text) (get_or (insert texts at text) m text) ≡ Less
    is a b k m one other e = (λ i. slice_cmp nat_cmp (one i) (other i)) ∙ e

    up_at : (k : ℕ) → k + 1 < length texts → slice_cmp nat_cmp (get_or texts k text) (get_or texts (k + 1) text) ≡ Less
    up_at k lt = Less-from_sorted (slice_cmp nat_cmp) texts k (k + 1) text up (omega arith) lt

    next : (k : ℕ) → k < length texts → slice_cmp nat_cmp (get_or (insert texts at text) k text) (get_or (insert texts at text) (k + 1) text) ≡ Less
    next k lt = elim (cases_lt (k + 1) at) [
      | inl low ↦ is (get_or texts k text) (get_or texts (k + 1) text) k (k + 1) (get_or-insert_below texts at text text k (omega arith) place.inside) (get_or-insert_below texts at text text (k + 1) low place.inside)
          (up_at k (omega (arith, low, place.inside)))
      | inr from ↦ elim (cases_lt k at) [
        | inl last ↦ (let same : at ≡ k + 1 = omega (arith, from, last) in
            is (get_or texts k text) text k (k + 1) (get_or-insert_below texts at text text k last place.inside)
            (subst (λ n. get_or (insert texts at text) n text ≡ text) same (get_or-insert_at texts at text text place.inside)) (place.before k text last))
        | inr behind ↦ elim (cases_eq k at) [
          | inl here ↦ is text (get_or texts k text) k (k + 1) (subst (λ n. get_or (insert texts at text) n text ≡ text) (sym here) (get_or-insert_at texts at text text place.inside))
              (get_or-insert_above texts at text text k behind place.inside) (turned (get_or texts k text) text Greater (place.behind k text behind lt))
          | inr apart ↦ (let (j, one_less) = before k at behind apart in
              is (get_or texts j text) (get_or texts k text) k (k + 1)
              (subst (λ n. get_or (insert texts at text) n text ≡ get_or texts j text) one_less (get_or-insert_above texts at text text j (omega (arith, behind, one_less, apart)) place.inside))
              (get_or-insert_above texts at text text k behind place.inside)
              (subst (λ n. slice_cmp nat_cmp (get_or texts j text) (get_or texts n text) ≡ Less) one_less (up_at j (omega (arith, one_less, lt)))))
        ]
      ]
    ]
      where
        before : (k at : ℕ) → at ≤ k → (k ≡ at → ⊥) → (j : ℕ) × (j + 1 ≡ k)
        before zero at le apart = absurd (apart (omega (arith, le)))
        before (suc k) at le apart = (k, omega arith)

-- it has what was there, and the text
pub inserted_has : (texts : List Text) (at : ℕ) (text x : Text) → Contains (insert texts at text) x ↔ (Contains texts x ⊎ (x ≡ text))
inserted_has texts at text x = (to, from)
  where
    whole : take at texts ++ drop at texts ≡ texts
    whole = take-append-drop at texts

    to : Contains (insert texts at text) x → Contains texts x ⊎ (x ≡ text)
    to has = elim (Contains-append_cases (take at texts) (text ∷ drop at texts) x has) [
      | inl front ↦ inl (subst (λ (l : List Text). Contains l x) whole (Contains-append_left (take at texts) (drop at texts) x front))
      | inr rest ↦ elim (first_or text (drop at texts) x rest) [
        | inl same ↦ inr (sym same)
        | inr back ↦ inl (subst (λ (l : List Text). Contains l x) whole (Contains-append_right (take at texts) (drop at texts) x back))
      ]
    ]

    from : Contains texts x ⊎ (x ≡ text) → Contains (insert texts at text) x
    from (inl has) = elim (Contains-append_cases (take at texts) (drop at texts) x (subst (λ (l : List Text). Contains l x) (sym whole) has)) [
      | inl front ↦ Contains-append_left (take at texts) (text ∷ drop at texts) x front
      | inr back ↦ Contains-append_right (take at texts) (text ∷ drop at texts) x (later text (drop at texts) x back)
    ]
    from (inr same) = Contains-append_right (take at texts) (text ∷ drop at texts) x (0, omega arith, sym same)

pub inserted_length : (texts : List Text) (at : ℕ) (text : Text) → IsPlace texts at text → length (insert texts at text) ≡ length texts + 1
inserted_length texts at text place = length-insert texts at text place.inside
