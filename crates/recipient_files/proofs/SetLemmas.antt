-- Which ids a set has.
use Rattle.std.proofs.Common.{◌≡◌, ◌<◌, ◌≤◌, ◌+◌, ℕ, zero, suc, Bool, true, false, cond, not, ◌||◌, [], ◌∷◌, ◌++◌, length, get_or, inl, inr, refl, ap, sym, ◌∙◌, subst, arith, length-append}
use Rattle.std.specs.Prelude.{◌↔◌, bytes_eq, All, Contains}
use Rattle.std.specs.Bool.{Decides}
use Rattle.std.specs.List.{AllByRecursion}
use Rattle.std.specs.List.Sorted.{IsStrictlySortedBy}
use Rattle.std.specs.Ordering.{nat_cmp, is_eq}
use Rattle.std.specs.declared.cmp.Ordering.TheVariants.{Less}
use Rattle.std.specs.Cmp.Lexicographic.{slice_cmp, texts_ties}
use Rattle.std.specs.BTreeSet.{BTreeSet}
use Rattle.std.proofs.lemmas.Cmp.{nat_list_cmp_total}
use Rattle.std.proofs.lemmas.Map.Lookups.{btree_set_from_contains, exact_bytes}
use Rattle.std.proofs.lemmas.Map.Views.{btree_set_contains_iff}
use Rattle.std.proofs.lemmas.Bool.{or_cases, or_right, cases_Bool, false_from_ne_true}
use Rattle.std.proofs.lemmas.List.Elements.{All-head, All-tail, All-cons}
use Rattle.std.proofs.lemmas.List.Kept.{IsStrictlySortedBy-filter}
use Rattle.std.proofs.lemmas.Slice.Eq.{bytes_eq-Decides}
use Rattle.gopass_base.specs.Text.{Text, is_among}
use Rattle.gopass_base.specs.Order.{IsRising, IsSetOf}
use Rattle.recipient_files.specs.Ids.{Ids, IsId, IsRecipients, without}

-- the test tells whether an id is there
among_has : (ids : Ids) (id : Text) → is_among ids id ≡ true → Contains ids id
among_has [] id e = cc
among_has (one ∷ ids) id e = elim (or_cases (bytes_eq one id) (is_among ids id) e) [
  | inl same ↦ (0, omega arith, (bytes_eq-Decides one id).0 same)
  | inr more ↦ (let (k, lt, at) = among_has ids id more in (suc k, omega arith, at))
]

has_among : (ids : Ids) (id : Text) (k : ℕ) → k < length ids → (d : Text) → get_or ids k d ≡ id → is_among ids id ≡ true
has_among [] id k lt d at = absurd (omega arith)
has_among (one ∷ ids) id zero lt d at = ap (λ t. t || is_among ids id) ((bytes_eq-Decides one id).1 at)
has_among (one ∷ ids) id (suc k) lt d at = or_right (bytes_eq one id) (is_among ids id) (has_among ids id k (omega arith) d at)

pub is_among_tells : (ids : Ids) (id : Text) → Decides (is_among ids id) (Contains ids id)
is_among_tells ids id = (among_has ids id, λ (k, lt, at). has_among ids id k lt id at)

less_differs : (one other : Text) → slice_cmp nat_cmp one other ≡ Less → bytes_eq one other ≡ false
less_differs one other less = texts_ties one other ∙ ap is_eq less

more_differs : (one other : Text) → slice_cmp nat_cmp other one ≡ Less → bytes_eq one other ≡ false
more_differs one other less = false_from_ne_true (bytes_eq one other) (λ e.
    let same : bytes_eq other one ≡ true = (bytes_eq-Decides other one).1 (sym ((bytes_eq-Decides one other).0 e)) in
    let differs : bytes_eq other one ≡ false = less_differs other one less in
    cc)

-- ids that are all above another are not that one
apart : (id : Text) (ids : Ids) → AllByRecursion (λ other. slice_cmp nat_cmp id other ≡ Less) ids → without ids id ≡ ids
apart id [] all = refl
apart id (one ∷ ids) all = ap (λ t. cond (not t) (one ∷ without ids id) (without ids id)) (more_differs one id all.0) ∙ ap (λ l. one ∷ l) (apart id ids all.1)

-- of ids in rising order at most one is taken out
one_out : (id : Text) (ids : Ids) → IsRising ids → length ids ≤ length (without ids id) + 1
unfolding IsStrictlySortedBy
one_out id [] rising = omega arith
one_out id (one ∷ ids) rising = elim (cases_Bool (bytes_eq one id)) [
  | inl same ↦ (
      let left = ap (λ t. cond (not t) (one ∷ without ids id) (without ids id)) same in
      let here : one ≡ id = (bytes_eq-Decides one id).0 same in
      let others : without ids id ≡ ids = subst (λ t. without ids t ≡ ids) here (apart one ids rising.0) in
      omega (arith, ap length left, ap length others)
      )
  | inr other ↦ (
      let left = ap (λ t. cond (not t) (one ∷ without ids id) (without ids id)) other in
      let rest = one_out id ids rising.1 in
      omega (arith, ap length left, rest)
      )
]

few_left : (id : Text) (ids : Ids) → length (without ids id) ≤ length ids
few_left id [] = omega arith
few_left id (one ∷ ids) = kept (not (bytes_eq one id)) (few_left id ids)
  where
    kept : (stays : Bool) → length (without ids id) ≤ length ids → length (cond stays (one ∷ without ids id) (without ids id)) ≤ length (one ∷ ids)
    kept true few = omega (arith, few)
    kept false few = omega (arith, few)

each_left : (id : Text) (ids : Ids) → All IsId ids → All IsId (without ids id)
each_left id [] each = each
each_left id (one ∷ ids) each = kept (not (bytes_eq one id)) (each_left id ids (All-tail IsId one ids each))
  where
    kept : (stays : Bool) → All IsId (without ids id) → All IsId (cond stays (one ∷ without ids id) (without ids id))
    kept true all = All-cons IsId one (without ids id) (All-head IsId one ids each) all
    kept false all = all

-- a set of two ids or more is a set without one of them
pub recipients_without : (id : Text) (ids : Ids) → IsRecipients ids → 1 < length ids → IsRecipients (without ids id)
recipients_without id ids is more =
    let out = one_out id ids is.rising in
    let left = few_left id ids in
    let few = is.few in
    record {
      some = omega (arith, out, more);
      few = omega (arith, left, few);
      each = each_left id ids is.each;
      rising = IsStrictlySortedBy-filter (slice_cmp nat_cmp) (λ one. not (bytes_eq one id)) ids is.rising;
    }

-- the set of a set of fewer than 64, and one id more
pub recipients_with : (id : Text) (ids set : Ids) → IsSetOf set (ids ++ id ∷ []) → length ids < 64 → length set ≤ length (ids ++ id ∷ []) → All IsId set → IsRecipients set
recipients_with id ids set is room few each = record {
  some = filled set is;
  few = omega (arith, few, room, length-append ids (id ∷ []));
  each = each;
  rising = is.rising;
}
  where
    filled : (set : Ids) → IsSetOf set (ids ++ id ∷ []) → 1 ≤ length set
    filled [] is = (let (k, lt, at) = (is.same id).1 (last ids) in omega arith)
      where
        last : (ids : Ids) → Contains (ids ++ id ∷ []) id
        last [] = (0, omega arith, refl)
        last (one ∷ ids) = (let (k, lt, at) = last ids in (suc k, omega arith, at))
    filled (one ∷ set) is = omega arith

-- in rising order, an id is not among those before it
pub not_before : (before : Ids) (id : Text) (more : Ids) → IsRising (before ++ id ∷ more) → is_among before id ≡ false
unfolding IsStrictlySortedBy
not_before [] id more rising = refl
not_before (first ∷ before) id more rising =
    ap (λ t. t || is_among before id) (less_differs first id (each_at (λ other. slice_cmp nat_cmp first other ≡ Less) before id more rising.0)) ∙ not_before before id more rising.1
  where
    each_at : (P : Text → Type 0) (xs : Ids) (y : Text) (ys : Ids) → AllByRecursion P (xs ++ y ∷ ys) → P y
    each_at P [] y ys all = all.0
    each_at P (x ∷ xs) y ys all = each_at P xs y ys all.1

same_answer : (a b : Bool) → (a ≡ true → b ≡ true) → (b ≡ true → a ≡ true) → a ≡ b
same_answer true b to back = sym (to refl)
same_answer false true to back = back refl
same_answer false false to back = refl

abbrev keyed : Ids → BTreeSet Text
keyed ids = record { keys = ids }

-- two sets with the same ids are one
pub one_set : (set other : Ids) → IsRising set → IsRising other → ((id : Text) → Contains set id ↔ Contains other id) → set ≡ other
one_set set other rising also same =
    btree_set_from_contains nat_list_cmp_total (keyed set) (keyed other) rising also
    (λ q.
    let here = btree_set_contains_iff nat_list_cmp_total (λ x y. exact_bytes x y) (keyed set) q in
    let there = btree_set_contains_iff nat_list_cmp_total (λ x y. exact_bytes x y) (keyed other) q in
    same_answer _ _ (λ e. there.1 ((same q).0 (here.0 e))) (λ e. here.1 ((same q).1 (there.0 e))))
    (λ x y. exact_bytes x y)
