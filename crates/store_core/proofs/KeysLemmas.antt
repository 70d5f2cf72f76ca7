-- The keys of a map, where a value comes or goes, are a rising list where a text comes or goes.
use Rattle.std.proofs.Common.{◌≡◌, ◌≢◌, ◌⊎◌, ◌↔◌, inl, inr, ℕ, zero, suc, ◌<◌, Bool, true, false, not, cond, List, [], ◌∷◌, length, get_or, Option, Some, None, bytes_eq, refl, ap, sym, ◌∙◌, subst, arith}
use Rattle.std.specs.Prelude.{Contains, is_some}
use Rattle.std.specs.List.{filter, insert, remove, AllByRecursion}
use Rattle.std.specs.List.Sorted.{IsStrictlySortedBy}
use Rattle.std.specs.FinMap as map
use Rattle.std.specs.Ordering.{nat_cmp}
use Rattle.std.specs.declared.cmp.Ordering.TheVariants.{Less, Equal}
use Rattle.std.specs.Cmp.Lexicographic.{slice_cmp}
use Rattle.std.proofs.lemmas.Cmp.{nat_list_cmp_total, tied_itself}
use Rattle.std.proofs.lemmas.List.Kept.{IsStrictlySortedBy-filter}
use Rattle.std.proofs.lemmas.Map.Keys.{Less-from_sorted}
use Rattle.std.proofs.lemmas.Map.Lookups.{exact_bytes}
use Rattle.std.proofs.lemmas.Slice.Eq.{bytes_eq-Decides}
use Rattle.std.proofs.lemmas.Bool.{false≢true}
use Rattle.gopass_base.specs.Text.{Text}
use Rattle.gopass_base.specs.Order.{IsRising, TextMap}
use Rattle.disk_model.proofs.FileLemmas.{cases_path, other_path}
use Rattle.recipient_files.proofs.SetLemmas.{one_set}
use Rattle.store_state.proofs.KeyLemmas.{key_there, keys_rise, row_missing, row_there}
use Rattle.store_state.proofs.PlaceLemmas.{IsPlace, inserted_has, inserted_rising, place_by_search, place_is_new}
use Rattle.store_core.specs.Applying.{IsSetAmong}
use Rattle.store_core.specs.Edit.{with_row}
use Rattle.store_core.proofs.CountLemmas.{filter_has}
use Rattle.store_core.proofs.StepLemmas.{row_apart, row_here}

not_below_itself : (x : Text) → slice_cmp nat_cmp x x ≡ Less → ⊥
not_below_itself x h = (let e : Equal ≡ Less = sym (tied_itself nat_list_cmp_total x) ∙ h in cc)

-- ---- the keys of a map with a value more or less

keys_more : {X : Type 0} (rows : TextMap X) (name q : Text) (cell : X) → Contains (map.keys (map.insert rows name cell)) q ↔ (Contains (map.keys rows) q ⊎ (q ≡ name))
keys_more rows name q cell = (
  λ has. elim (cases_path name q) [
    | inl same ↦ inr (sym same)
    | inr apart ↦ (let (c, is) = row_there (map.insert rows name cell) q has in inl (key_there rows q c (sym (row_apart rows name q (Some cell) apart) ∙ is)))
  ],
  λ has. elim (cases_path name q) [
    | inl same ↦ subst (λ (t : Text). Contains (map.keys (map.insert rows name cell)) t) same (key_there (map.insert rows name cell) name cell (row_here rows name (Some cell)))
    | inr apart ↦ elim has [
      | inl was ↦ (let (c, is) = row_there rows q was in key_there (map.insert rows name cell) q c (row_apart rows name q (Some cell) apart ∙ is))
      | inr is ↦ absurd (apart (sym is))
    ]
  ],
)

none_some : {X : Type 0} {x : X} → None ≡ Some x → ⊥
none_some e = cc

keys_less : {X : Type 0} (rows : TextMap X) (name q : Text) → Contains (map.keys (map.remove rows name)) q ↔ (Contains (map.keys rows) q × (name ≢ q))
keys_less rows name q = (
  λ has. elim (cases_path name q) [
    | inl same ↦ (let (c, is) = row_there (map.remove rows name) q has in
        absurd (none_some (sym (row_here rows name None) ∙ (ap (map.get (map.remove rows name)) same ∙ is))))
    | inr apart ↦ (let (c, is) = row_there (map.remove rows name) q has in (key_there rows q c (sym (row_apart rows name q None apart) ∙ is), apart))
  ],
  λ (was, apart). (let (c, is) = row_there rows q was in key_there (map.remove rows name) q c (row_apart rows name q None apart ∙ is)),
)

-- ---- the names

module _ {X : Type 0} (rows : TextMap X) (names : List Text) (name : Text) (is : map.keys rows ≡ names) where
  up : IsRising names
  up = subst IsRising is (keys_rise rows)

  -- a name that is there stays
  pub keys_over : (cell : X) → Contains names name → map.keys (map.insert rows name cell) ≡ names
  keys_over cell has = one_set (map.keys (map.insert rows name cell)) names (keys_rise (map.insert rows name cell)) up (λ q. (
    λ there. elim ((keys_more rows name q cell).0 there) [
      | inl was ↦ subst (λ (l : List Text). Contains l q) is was
      | inr same ↦ subst (Contains names) (sym same) has
    ],
    λ there. (keys_more rows name q cell).1 (inl (subst (λ (l : List Text). Contains l q) (sym is) there)),
  ))

  -- a new one comes in at its place
  pub keys_new : (cell : X) (at : ℕ) → IsPlace names at name → map.keys (map.insert rows name cell) ≡ insert names at name
  keys_new cell at place = one_set (map.keys (map.insert rows name cell)) (insert names at name) (keys_rise (map.insert rows name cell)) (inserted_rising names at name up place) (λ q. (
    λ there. (inserted_has names at name q).1 (elim ((keys_more rows name q cell).0 there) [
      | inl was ↦ inl (subst (λ (l : List Text). Contains l q) is was)
      | inr same ↦ inr same
    ]),
    λ there. (keys_more rows name q cell).1 (elim ((inserted_has names at name q).0 there) [
      | inl was ↦ inl (subst (λ (l : List Text). Contains l q) (sym is) was)
      | inr same ↦ inr same
    ]),
  ))

  -- where there is none nothing goes
  pub keys_none : ¬ Contains names name → map.keys (map.remove rows name) ≡ names
  keys_none out = one_set (map.keys (map.remove rows name)) names (keys_rise (map.remove rows name)) up (λ q. (
    λ there. subst (λ (l : List Text). Contains l q) is ((keys_less rows name q).0 there).0,
    λ there. (keys_less rows name q).1 (subst (λ (l : List Text). Contains l q) (sym is) there, λ same. out (subst (Contains names) (sym same) there)),
  ))

-- ---- one name goes

-- what is above all of a list is none of it
above_none : (x : Text) (xs : List Text) → AllByRecursion (λ y. slice_cmp nat_cmp x y ≡ Less) xs → filter (λ q. not (bytes_eq x q)) xs ≡ xs
above_none x [] all = refl
above_none x (y ∷ xs) all = ap (λ b. cond (not b) (y ∷ filter (λ q. not (bytes_eq x q)) xs) (filter (λ q. not (bytes_eq x q)) xs)) (other_path x y (λ e. not_below_itself y (subst (λ (t : Text). slice_cmp nat_cmp t y ≡ Less) e all.0)))
    ∙ ap (λ l. y ∷ l) (above_none x xs all.1)

pub removed : (names : List Text) (at : ℕ) (name : Text) → IsRising names → at < length names → get_or names at name ≡ name → remove names at ≡ filter (λ q. not (bytes_eq name q)) names
unfolding IsStrictlySortedBy
removed [] at name up lt is = absurd (omega (arith, lt))
removed (x ∷ names) zero name up lt is =
    sym (ap (λ b. cond (not b) (x ∷ filter (λ q. not (bytes_eq name q)) names) (filter (λ q. not (bytes_eq name q)) names)) ((bytes_eq-Decides name x).1 (sym is))
    ∙ subst (λ (t : Text). filter (λ q. not (bytes_eq t q)) names ≡ names) is (above_none x names up.0))
removed (x ∷ names) (suc at) name up lt is =
    let below : slice_cmp nat_cmp x name ≡ Less = subst (λ (t : Text). slice_cmp nat_cmp x t ≡ Less) is (Less-from_sorted (slice_cmp nat_cmp) (x ∷ names) 0 (suc at) name up (omega arith) lt) in
    ap (λ l. x ∷ l) (removed names at name up.1 (omega (arith, lt)) is)
    ∙ sym (ap (λ b. cond (not b) (x ∷ filter (λ q. not (bytes_eq name q)) names) (filter (λ q. not (bytes_eq name q)) names)) (other_path name x (λ e. not_below_itself name (subst (λ (t : Text). slice_cmp nat_cmp t name ≡ Less) (sym e) below))))

pub keys_out : {X : Type 0} (rows : TextMap X) (names : List Text) (name : Text) (at : ℕ) → map.keys rows ≡ names → at < length names → get_or names at name ≡ name → map.keys (map.remove rows name) ≡ remove names at
keys_out rows names name at is lt here =
    let up = subst IsRising is (keys_rise rows) in
    let left = filter (λ q. not (bytes_eq name q)) names in
    one_set (map.keys (map.remove rows name)) left (keys_rise (map.remove rows name)) (IsStrictlySortedBy-filter (slice_cmp nat_cmp) (λ q. not (bytes_eq name q)) names up) (λ q. (
      λ there. (let (was, apart) = (keys_less rows name q).0 there in (filter_has (λ t. not (bytes_eq name t)) names q).1 (subst (λ (l : List Text). Contains l q) is was) (ap not (other_path name q apart))),
      λ there. (let (was, on) = (filter_has (λ t. not (bytes_eq name t)) names q).0 there in
          (keys_less rows name q).1 (subst (λ (l : List Text). Contains l q) (sym is) was, λ e. false≢true (sym (ap not ((bytes_eq-Decides name q).1 e)) ∙ on))),
    )) ∙ sym (removed names at name up lt here)

-- ---- whether a text has a value

there_by : {X : Type 0} (rows : TextMap X) (names : List Text) (name : Text) → map.keys rows ≡ names → Contains names name → is_some (map.get rows name) ≡ true
there_by rows names name same has = (let (x, is) = row_there rows name (subst (λ (l : List Text). Contains l name) (sym same) has) in ap is_some is)

not_by : {X : Type 0} (rows : TextMap X) (names : List Text) (name : Text) → map.keys rows ≡ names → ¬ Contains names name → is_some (map.get rows name) ≡ false
not_by rows names name same out = ap is_some (row_missing rows name (λ has. out (subst (λ (l : List Text). Contains l name) same has)))

-- ---- by a search

-- the keys are the list once the text is set among it, and whether it was there is told
pub set_keys : {X : Type 0} (rows : TextMap X) (names new : List Text) (name : Text) (value : Option X) (is was : Bool) → map.keys rows ≡ names → is_some value ≡ is → IsSetAmong (slice_cmp nat_cmp) names new name is was
    → (map.keys (with_row rows name value) ≡ new) × (is_some (map.get rows name) ≡ was)
set_keys rows names new name (Some value) true true same e (at, lt, found, now) =
    let here = exact_bytes (get_or names at name) name (found name) in
    (keys_over rows names name same value (at, lt, here) ∙ sym now, there_by rows names name same (at, lt, here))
set_keys rows names new name None false true same e (at, lt, found, now) =
    let here = exact_bytes (get_or names at name) name (found name) in
    (keys_out rows names name at same lt here ∙ sym now, there_by rows names name same (at, lt, here))
set_keys rows names new name (Some value) true false same e (at, bound, found, now) =
    let place = place_by_search names name at (subst IsRising same (keys_rise rows)) bound found in
    (keys_new rows names name same value at place ∙ sym now, not_by rows names name same (place_is_new names at name place))
set_keys rows names new name None false false same e (at, bound, found, now) =
    let out = place_is_new names at name (place_by_search names name at (subst IsRising same (keys_rise rows)) bound found) in
    (keys_none rows names name same out ∙ sym now, not_by rows names name same out)
set_keys rows names new name (Some value) false was same e set = absurd (false≢true (sym e))
set_keys rows names new name None true was same e set = absurd (false≢true e)

-- a list that rises rises then
pub set_rises : (names new : List Text) (name : Text) (is was : Bool) → IsRising names → IsSetAmong (slice_cmp nat_cmp) names new name is was → IsRising new
set_rises names new name true true up (at, lt, found, now) = subst IsRising (sym now) up
set_rises names new name false true up (at, lt, found, now) =
    let here = exact_bytes (get_or names at name) name (found name) in
    subst IsRising (sym (now ∙ removed names at name up lt here)) (IsStrictlySortedBy-filter (slice_cmp nat_cmp) (λ q. not (bytes_eq name q)) names up)
set_rises names new name true false up (at, bound, found, now) = subst IsRising (sym now) (inserted_rising names at name up (place_by_search names name at up bound found))
set_rises names new name false false up (at, bound, found, now) = subst IsRising (sym now) up
