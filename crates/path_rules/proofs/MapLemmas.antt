-- What the two lists of rules stand for as a map, where one changes.
use Rattle.std.proofs.Common.{◌≡◌, inl, inr, ℕ, ◌<◌, ◌≤◌, List, [], length, get_or, set, cond, Bool, true, false, not, T, Some, None, Result, Ok, Err, refl, ap, sym, ◌∙◌, subst, arith}
use Rattle.std.specs.Prelude.{map as each}
use Rattle.std.proofs.lemmas.Bool.{cases_lt}
use Rattle.std.proofs.lemmas.List.{length-set}
use Rattle.std.proofs.lemmas.List.Edits.{length-insert, length-remove}
use Rattle.std.specs.List.{zip, insert, remove}
use Rattle.std.specs.List.Sorted.{IsBinarySearchResult, IsSearchInRange}
use Rattle.std.specs.Ordering.{is_eq, eq_by_cmp, ordering_reverse}
use Rattle.std.specs.Cmp.{eq_by_cmp_equiv}
use Rattle.std.specs.FinMap as map
use Rattle.std.specs.FinMap.{nat_cmp-IsAntisymmetric, slice_cmp-IsAntisymmetric}
use Rattle.std.specs.FinMap.Entries.{is_sorted, is_sorted-put, is_sorted-where_key, find, find-where_key, put, where_key}
use Rattle.std.proofs.lemmas.Cmp.{nat_list_cmp_total}
use Rattle.std.proofs.lemmas.List.Sorted.{searchable_from_sorted}
use Rattle.std.proofs.lemmas.Map.Lookups.{exact_bytes}
use Rattle.gopass_base.specs.Text.{Text}
use Rattle.recipient_files.specs.Ids.{Ids}
use Rattle.path_rules.specs.RuleMap.{RuleMap, rule_at, HasRule, AreEntries, map_of, IsSpot}
use Rattle.gopass_base.specs.Order.{IsRising}
use Rattle.path_rules.specs.Changes.{HasRoom}
use Rattle.path_rules.specs.declared.entries.Spot.{Spot}
use Rattle.path_rules.specs.declared.entries.Spot.TheVariants.{At, Before}
use Rattle.gopass_base.proofs.OrderLemmas.{above, sorted}
use Rattle.path_rules.proofs.EntryLemmas.{order, rise, rising, found, missing, put_found, put_missing, other_than, taken_out, keys_zip, length_zip}

-- ---- where a folder stands

pub spot_at : (fs : List Text) (q : Text) (r : Result ℕ ℕ) → IsSearchInRange r (length fs) → IsBinarySearchResult (λ (f : Text). order f q) fs r → (k : ℕ) → r ≡ Ok k → IsSpot fs q (At k)
spot_at fs q (Ok i) bound searched k is =
    let same : i ≡ k = cc in
    subst (λ n. IsSpot fs q (At n)) same (bound, exact_bytes (get_or fs i []) q (searched []))
spot_at fs q (Err i) bound searched k is = absurd (cc)

pub spot_before : (fs : List Text) (q : Text) (r : Result ℕ ℕ) → IsRising fs → IsSearchInRange r (length fs) → IsBinarySearchResult (λ (f : Text). order f q) fs r → (k : ℕ) → r ≡ Err k → IsSpot fs q (Before k)
spot_before fs q (Ok i) up bound searched k is = absurd (cc)
spot_before fs q (Err i) up bound searched k is =
    let same : i ≡ k = cc in
    let parts = searched (searchable_from_sorted nat_list_cmp_total (λ (f : Text). f) fs q (sorted fs up)) in
    subst (λ n. IsSpot fs q (Before n)) same (
      bound,
      λ j lt. parts.0 j [] (omega arith) lt,
      λ j low lt. nat_list_cmp_total.antisymm q (get_or fs j []) ∙ ap ordering_reverse (parts.1 j [] low lt),
    )

-- ---- what is found

differs : (fs : List Text) (q : Text) (i : ℕ) → IsSpot fs q (Before i) → (k : ℕ) → k < length fs → is_eq (order q (get_or fs k [])) ≡ false
differs fs q i (inside, low, high) k lt = elim (cases_lt k i) [
  | inl below ↦ ap is_eq (above (get_or fs k []) q (low k below))
  | inr behind ↦ ap is_eq (high k behind lt)
]

pub found_at : (fs : List Text) (ss : List Ids) (q : Text) (k : ℕ) → AreEntries fs ss → IsSpot fs q (At k) → rule_at (map_of fs ss) q ≡ Some (get_or ss k [])
found_at fs ss q k are (lt, is) = map.get-from_sorted order (zip fs ss) q are.rising ∙ found fs ss q k are.as_many (rise fs ss are.as_many are.rising) lt is

pub found_nowhere : (fs : List Text) (ss : List Ids) (q : Text) (k : ℕ) → AreEntries fs ss → IsSpot fs q (Before k) → rule_at (map_of fs ss) q ≡ None
found_nowhere fs ss q k are spot = map.get-from_sorted order (zip fs ss) q are.rising ∙ missing fs ss q (differs fs q k spot)

pub keys_are : (fs : List Text) (ss : List Ids) → AreEntries fs ss → map.keys (map_of fs ss) ≡ fs
keys_are fs ss are = ap (each (λ (e : Text × Ids). e.0)) (map.entries-from_sorted order (zip fs ss) are.rising) ∙ keys_zip fs ss are.as_many

pub len_is : (fs : List Text) (ss : List Ids) → AreEntries fs ss → map.len (map_of fs ss) ≡ length fs
len_is fs ss are = map.len-entries (map_of fs ss) ∙ (ap length (map.entries-from_sorted order (zip fs ss) are.rising) ∙ length_zip fs ss are.as_many)

pub none_are : AreEntries [] []
none_are = record { as_many = refl; rising = tt }

pub none_is : map_of [] [] ≡ map.empty
none_is = map.empty_of_len (map_of [] []) (len_is [] [] none_are)

-- ---- what changes

by_put : (fs : List Text) (ss : List Ids) (fs' : List Text) (ss' : List Ids) (q : Text) (v : Ids) → AreEntries fs ss → zip fs' ss' ≡ put order q v (zip fs ss)
    → T (is_sorted order (zip fs' ss')) × (map_of fs' ss' ≡ map.insert (map_of fs ss) q v)
by_put fs ss fs' ss' q v are e =
    let up : T (is_sorted order (zip fs' ss')) = subst (λ (es : List (Text × Ids)). T (is_sorted order es)) (sym e) (is_sorted-put order nat_list_cmp_total q v (zip fs ss) are.rising) in (
      up,
      map.same_entries_map (map_of fs' ss') (map.insert (map_of fs ss) q v)
          (map.entries-from_sorted order (zip fs' ss') up
          ∙ (e ∙ sym (map.entries-insert nat_list_cmp_total (map_of fs ss) q v ∙ ap (put order q v) (map.entries-from_sorted order (zip fs ss) are.rising)))),
    )

-- the rule of a folder that has one is another
pub set_there : (fs : List Text) (ss : List Ids) (q : Text) (v : Ids) (k : ℕ) → AreEntries fs ss → IsSpot fs q (At k) → AreEntries fs (set ss k v) × (map_of fs (set ss k v) ≡ map.insert (map_of fs ss) q v)
set_there fs ss q v k are (lt, is) =
    let put = by_put fs ss fs (set ss k v) q v are (put_found fs ss q v k are.as_many (rise fs ss are.as_many are.rising) lt is) in
    (record { as_many = length-set ss k v ∙ are.as_many; rising = put.0 }, put.1)

-- a folder gets a rule
pub put_there : (fs : List Text) (ss : List Ids) (q : Text) (v : Ids) (i : ℕ) → AreEntries fs ss → IsSpot fs q (Before i)
    → AreEntries (insert fs i q) (insert ss i v) × (map_of (insert fs i q) (insert ss i v) ≡ map.insert (map_of fs ss) q v)
put_there fs ss q v i are (inside, low, high) =
    let many : length ss ≡ length fs = are.as_many in
    let put = by_put fs ss (insert fs i q) (insert ss i v) q v are (put_missing fs ss q v i many inside low (λ lt. high i (omega arith) lt)) in (
      record {
        as_many = omega (arith, many, length-insert fs i q inside, length-insert ss i v (omega (arith, many)));
        rising = put.0;
      },
      put.1,
    )

turned : {A : Type 0} (b c : Bool) (x y : A) → b ≡ c → cond (not b) x y ≡ cond c y x
turned true c x y e = ap (λ t. cond t y x) e
turned false c x y e = ap (λ t. cond t y x) e

-- a folder's rule goes
pub taken : (fs : List Text) (ss : List Ids) (q : Text) (k : ℕ) → AreEntries fs ss → IsSpot fs q (At k) → AreEntries (remove fs k) (remove ss k) × (map_of (remove fs k) (remove ss k) ≡ map.remove (map_of fs ss) q)
taken fs ss q k are (lt, is) =
    let many : length ss ≡ length fs = are.as_many in
    let out : zip (remove fs k) (remove ss k) ≡ where_key order (other_than q) (zip fs ss) = taken_out fs ss q k many (rise fs ss many are.rising) lt is in
    let up : T (is_sorted order (zip (remove fs k) (remove ss k))) = subst (λ (es : List (Text × Ids)). T (is_sorted order es)) (sym out) (is_sorted-where_key order (other_than q) (zip fs ss) are.rising) in (
      record {
        as_many = omega (arith, many, length-remove fs k lt, length-remove ss k (omega (arith, many)));
        rising = up;
      },
      map.same_map nat_list_cmp_total (slice_cmp-IsAntisymmetric nat_cmp-IsAntisymmetric) (map_of (remove fs k) (remove ss k)) (map.remove (map_of fs ss) q) (λ x.
          map.get-from_sorted order (zip (remove fs k) (remove ss k)) x up
          ∙ (ap (find order x) out ∙ (find-where_key order (other_than q) x (λ y tie. ap (other_than q) (sym (exact_bytes x y tie))) (zip fs ss)
          ∙ (turned (eq_by_cmp order q x) (eq_by_cmp order x q) (find order x (zip fs ss)) None ((eq_by_cmp_equiv nat_list_cmp_total).symm q x)
          ∙ sym (map.get-remove nat_list_cmp_total (map_of fs ss) q x ∙ ap (cond (eq_by_cmp order x q) None) (map.get-from_sorted order (zip fs ss) x are.rising)))))),
    )

-- ---- what the code has at hand

pub turned_spot : (fs gs : List Text) (q p : Text) (spot other : Spot) → gs ≡ fs → p ≡ q → spot ≡ other → IsSpot gs p spot → IsSpot fs q other
turned_spot fs gs q p spot other folders text is h =
    subst (λ (s : Spot). IsSpot fs q s) is (subst (λ (t : Text). IsSpot fs t spot) text (subst (λ (l : List Text). IsSpot l p spot) folders h))

pub rise_of : (fs gs : List Text) (ss : List Ids) → gs ≡ fs → AreEntries fs ss → IsRising gs
rise_of fs gs ss same are = subst IsRising (sym same) (rising fs ss are.as_many are.rising)

-- no room is left, and the folder has no rule
pub is_full : (fs : List Text) (ss : List Ids) (q : Text) (rules : RuleMap) (k n : ℕ) → AreEntries fs ss → map_of fs ss ≡ rules → IsSpot fs q (Before k) → n ≡ length fs → 512 ≤ n → (rule_at rules q ≡ None) × (512 ≤ map.len rules)
is_full fs ss q rules k n are view spot count full =
    subst (λ (r : RuleMap). (rule_at r q ≡ None) × (512 ≤ map.len r)) view (found_nowhere fs ss q k are spot, omega (arith, len_is fs ss are, count, full))

pub has_room : (fs : List Text) (ss : List Ids) (q : Text) (rules : RuleMap) (n : ℕ) → AreEntries fs ss → map_of fs ss ≡ rules → n ≡ length fs → n < 512 → HasRoom rules q
has_room fs ss q rules n are view count room = inr (omega (arith, ap (λ (r : RuleMap). map.len r) view, len_is fs ss are, count, room))

pub has_rule : (fs : List Text) (ss : List Ids) (q : Text) (rules : RuleMap) (k : ℕ) → AreEntries fs ss → map_of fs ss ≡ rules → IsSpot fs q (At k) → HasRule rules q
has_rule fs ss q rules k are view spot = (get_or ss k [], ap (λ (r : RuleMap). rule_at r q) (sym view) ∙ found_at fs ss q k are spot)

-- both lists after an entry is put in
pub put_lists : (fs gs hs : List Text) (ss ts us : List Ids) (q p : Text) (v : Ids) (i : ℕ) (rules : RuleMap) → AreEntries fs ss → map_of fs ss ≡ rules → IsSpot fs q (Before i)
    → gs ≡ fs → ts ≡ ss → p ≡ q → hs ≡ insert gs i p → us ≡ insert ts i v → AreEntries hs us × (map_of hs us ≡ map.insert rules q v)
put_lists fs gs hs ss ts us q p v i rules are view spot gs_is ts_is p_is hs_is us_is =
    let folders : insert fs i q ≡ hs = sym (hs_is ∙ (λ j. insert (gs_is j) i (p_is j))) in
    let sets : insert ss i v ≡ us = sym (us_is ∙ (λ j. insert (ts_is j) i v)) in
    let put = put_there fs ss q v i are spot in (
      subst (λ (l : List Text). AreEntries l us) folders (subst (λ (l : List Ids). AreEntries (insert fs i q) l) sets put.0),
      sym (λ j. map_of (folders j) (sets j)) ∙ (put.1 ∙ ap (λ (r : RuleMap). map.insert r q v) view),
    )

-- both lists after an entry is taken out
pub taken_lists : (fs gs : List Text) (ss ts : List Ids) (q : Text) (i : ℕ) (rules : RuleMap) → AreEntries fs ss → map_of fs ss ≡ rules → IsSpot fs q (At i) → gs ≡ remove fs i → ts ≡ remove ss i → AreEntries gs ts × (map_of gs ts ≡ map.remove rules q)
taken_lists fs gs ss ts q i rules are view spot gs_is ts_is =
    let out = taken fs ss q i are spot in (
      subst (λ (l : List Text). AreEntries l ts) (sym gs_is) (subst (λ (l : List Ids). AreEntries (remove fs i) l) (sym ts_is) out.0),
      (λ j. map_of (gs_is j) (ts_is j)) ∙ (out.1 ∙ ap (λ (r : RuleMap). map.remove r q) view),
    )

pub inside_sets : (fs : List Text) (ss : List Ids) (q : Text) (k : ℕ) → AreEntries fs ss → IsSpot fs q (At k) → k < length ss
inside_sets fs ss q k are spot = (let many : length ss ≡ length fs = are.as_many in omega (arith, spot.0, many))
