-- Two lists as the entries of a map: what is found, put in and taken out.
use Rattle.std.proofs.Common.{◌≡◌, ℕ, zero, suc, ◌<◌, ◌≤◌, List, [], ◌∷◌, length, get_or, set, cond, Bool, false, not, map, T, Some, None, refl, ap, sym, ◌∙◌, subst, arith}
use Rattle.std.specs.List.{zip, insert, remove}
use Rattle.std.specs.Ordering.{nat_cmp, is_lt, is_eq, eq_by_cmp}
use Rattle.std.specs.declared.cmp.Ordering.{Ordering}
use Rattle.std.specs.declared.cmp.Ordering.TheVariants.{Equal, Less}
use Rattle.std.specs.Cmp.Lexicographic.{slice_cmp}
use Rattle.std.specs.FinMap.Entries.{is_sorted, below_all, find, put, where_key, by_order}
use Rattle.std.proofs.lemmas.Cmp.{nat_list_cmp_total, tied_itself}
use Rattle.std.specs.List.{AllByRecursion}
use Rattle.std.specs.List.Sorted.{IsStrictlySortedBy}
use Rattle.gopass_base.specs.Text.{Text}
use Rattle.gopass_base.specs.Order.{IsRising}
use Rattle.gopass_base.proofs.OrderLemmas.{above, both, less}
use Rattle.mount_table.specs.Mounts.{IsBelow}
use Rattle.recipient_files.specs.Ids.{Ids}

abbrev pub order : Text → Text → Ordering
order = slice_cmp nat_cmp

pub ties : (q : Text) → order q q ≡ Equal
ties q = tied_itself nat_list_cmp_total q

below_each : (f : Text) (fs : List Text) (ss : List Ids) → length ss ≡ length fs → T (below_all order f (zip fs ss)) → (k : ℕ) → k < length fs → IsBelow f (get_or fs k [])
below_each f [] ss e h k lt = absurd (omega arith)
below_each f (g ∷ fs) [] e h k lt = absurd (omega (arith, e))
below_each f (g ∷ fs) (s ∷ ss) e h zero lt = less (order f g) (both (is_lt (order f g)) (below_all order f (zip fs ss)) h).0
below_each f (g ∷ fs) (s ∷ ss) e h (suc k) lt = below_each f fs ss (omega (arith, e)) (both (is_lt (order f g)) (below_all order f (zip fs ss)) h).1 k (omega arith)

-- the first folder is below the others, which rise
first_below : (f : Text) (fs : List Text) (s : Ids) (ss : List Ids) → T (is_sorted order (zip (f ∷ fs) (s ∷ ss))) → T (below_all order f (zip fs ss)) × T (is_sorted order (zip fs ss))
first_below f fs s ss up = both (below_all order f (zip fs ss)) (is_sorted order (zip fs ss)) up

-- each folder is below those after it, by their places
abbrev pub Rises : List Text → Type 0
Rises fs = (i k : ℕ) → i < k → k < length fs → IsBelow (get_or fs i []) (get_or fs k [])

all_below : (f : Text) (fs : List Text) (ss : List Ids) → length ss ≡ length fs → T (below_all order f (zip fs ss)) → AllByRecursion (λ g. order f g ≡ Less) fs
all_below f [] ss e h = tt
all_below f (g ∷ fs) [] e h = absurd (omega (arith, e))
all_below f (g ∷ fs) (s ∷ ss) e h = let at = both (is_lt (order f g)) (below_all order f (zip fs ss)) h in (less (order f g) at.0, all_below f fs ss (omega (arith, e)) at.1)

-- the folders of entries in their order rise
pub rising : (fs : List Text) (ss : List Ids) → length ss ≡ length fs → T (is_sorted order (zip fs ss)) → IsRising fs
unfolding IsStrictlySortedBy
rising [] ss e up = tt
rising (f ∷ fs) [] e up = absurd (omega (arith, e))
rising (f ∷ fs) (s ∷ ss) e up = let at = first_below f fs s ss up in (all_below f fs ss (omega (arith, e)) at.0, rising fs ss (omega (arith, e)) at.1)

pub rise : (fs : List Text) (ss : List Ids) → length ss ≡ length fs → T (is_sorted order (zip fs ss)) → Rises fs
rise [] ss e up i k low lt = absurd (omega arith)
rise (f ∷ fs) [] e up i k low lt = absurd (omega (arith, e))
rise (f ∷ fs) (s ∷ ss) e up i zero low lt = absurd (omega arith)
rise (f ∷ fs) (s ∷ ss) e up zero (suc k) low lt = below_each f fs ss (omega (arith, e)) (first_below f fs s ss up).0 k (omega arith)
rise (f ∷ fs) (s ∷ ss) e up (suc i) (suc k) low lt = rise fs ss (omega (arith, e)) (first_below f fs s ss up).1 i k (omega arith) (omega arith)

pub found : (fs : List Text) (ss : List Ids) (q : Text) (k : ℕ) → length ss ≡ length fs → Rises fs → k < length fs → get_or fs k [] ≡ q → find order q (zip fs ss) ≡ Some (get_or ss k [])
found [] ss q k e up lt is = absurd (omega arith)
found (f ∷ fs) [] q k e up lt is = absurd (omega (arith, e))
found (f ∷ fs) (s ∷ ss) q zero e up lt is = ap (λ o. cond (is_eq o) (Some s) (find order q (zip fs ss))) (subst (λ (t : Text). order q t ≡ Equal) (sym is) (ties q))
found (f ∷ fs) (s ∷ ss) q (suc k) e up lt is =
    ap (λ o. cond (is_eq o) (Some s) (find order q (zip fs ss))) (above f q (subst (IsBelow f) is (up 0 (suc k) (omega arith) lt)))
    ∙ found fs ss q k (omega (arith, e)) (λ i j low high. up (suc i) (suc j) (omega arith) (omega arith)) (omega arith) is

pub missing : (fs : List Text) (ss : List Ids) (q : Text) → ((k : ℕ) → k < length fs → is_eq (order q (get_or fs k [])) ≡ false) → find order q (zip fs ss) ≡ None
missing [] ss q other = refl
missing (f ∷ fs) [] q other = refl
missing (f ∷ fs) (s ∷ ss) q other = ap (λ b. cond b (Some s) (find order q (zip fs ss))) (other 0 (omega arith)) ∙ missing fs ss q (λ k lt. other (suc k) (omega arith))

pub put_found : (fs : List Text) (ss : List Ids) (q : Text) (v : Ids) (k : ℕ) → length ss ≡ length fs → Rises fs → k < length fs → get_or fs k [] ≡ q → zip fs (set ss k v) ≡ put order q v (zip fs ss)
put_found [] ss q v k e up lt is = absurd (omega arith)
put_found (f ∷ fs) [] q v k e up lt is = absurd (omega (arith, e))
put_found (f ∷ fs) (s ∷ ss) q v zero e up lt is = sym (ap (λ o. by_order o ((q, v) ∷ (f, s) ∷ zip fs ss) ((f, v) ∷ zip fs ss) ((f, s) ∷ put order q v (zip fs ss))) (subst (λ (t : Text). order q t ≡ Equal) (sym is) (ties q)))
put_found (f ∷ fs) (s ∷ ss) q v (suc k) e up lt is =
    ap (λ es. (f, s) ∷ es) (put_found fs ss q v k (omega (arith, e)) (λ i j low high. up (suc i) (suc j) (omega arith) (omega arith)) (omega arith) is)
    ∙ sym (ap (λ o. by_order o ((q, v) ∷ (f, s) ∷ zip fs ss) ((f, v) ∷ zip fs ss) ((f, s) ∷ put order q v (zip fs ss))) (above f q (subst (IsBelow f) is (up 0 (suc k) (omega arith) lt))))

pub put_missing : (fs : List Text) (ss : List Ids) (q : Text) (v : Ids) (i : ℕ) → length ss ≡ length fs → i ≤ length fs → ((k : ℕ) → k < i → IsBelow (get_or fs k []) q) → (i < length fs → IsBelow q (get_or fs i [])) → zip (insert fs i q) (insert ss i v) ≡ put order q v (zip fs ss)
put_missing [] [] q v zero e le low high = refl
put_missing [] [] q v (suc i) e le low high = absurd (omega arith)
put_missing [] (s ∷ ss) q v i e le low high = absurd (omega (arith, e))
put_missing (f ∷ fs) [] q v i e le low high = absurd (omega (arith, e))
put_missing (f ∷ fs) (s ∷ ss) q v zero e le low high = sym (ap (λ o. by_order o ((q, v) ∷ (f, s) ∷ zip fs ss) ((f, v) ∷ zip fs ss) ((f, s) ∷ put order q v (zip fs ss))) (high (omega arith)))
put_missing (f ∷ fs) (s ∷ ss) q v (suc i) e le low high =
    ap (λ es. (f, s) ∷ es) (put_missing fs ss q v i (omega (arith, e)) (omega arith) (λ k lt. low (suc k) (omega arith)) (λ lt. high (omega arith)))
    ∙ sym (ap (λ o. by_order o ((q, v) ∷ (f, s) ∷ zip fs ss) ((f, v) ∷ zip fs ss) ((f, s) ∷ put order q v (zip fs ss))) (above f q (low 0 (omega arith))))

abbrev pub other_than : Text → Text → Bool
other_than q x = not (eq_by_cmp order q x)

keep_all : (q : Text) (fs : List Text) (ss : List Ids) → length ss ≡ length fs → ((k : ℕ) → k < length fs → IsBelow q (get_or fs k [])) → where_key order (other_than q) (zip fs ss) ≡ zip fs ss
keep_all q [] ss e low = refl
keep_all q (f ∷ fs) [] e low = refl
keep_all q (f ∷ fs) (s ∷ ss) e low =
    ap (λ o. cond (not (is_eq o)) ((f, s) ∷ where_key order (other_than q) (zip fs ss)) (where_key order (other_than q) (zip fs ss))) (low 0 (omega arith))
    ∙ ap (λ es. (f, s) ∷ es) (keep_all q fs ss (omega (arith, e)) (λ k lt. low (suc k) (omega arith)))

pub taken_out : (fs : List Text) (ss : List Ids) (q : Text) (k : ℕ) → length ss ≡ length fs → Rises fs → k < length fs → get_or fs k [] ≡ q → zip (remove fs k) (remove ss k) ≡ where_key order (other_than q) (zip fs ss)
taken_out [] ss q k e up lt is = absurd (omega arith)
taken_out (f ∷ fs) [] q k e up lt is = absurd (omega (arith, e))
taken_out (f ∷ fs) (s ∷ ss) q zero e up lt is =
    sym (ap (λ o. cond (not (is_eq o)) ((f, s) ∷ where_key order (other_than q) (zip fs ss)) (where_key order (other_than q) (zip fs ss))) (subst (λ (t : Text). order q t ≡ Equal) (sym is) (ties q))
    ∙ keep_all q fs ss (omega (arith, e)) (λ k low. subst (λ (t : Text). IsBelow t (get_or fs k [])) is (up 0 (suc k) (omega arith) (omega arith))))
taken_out (f ∷ fs) (s ∷ ss) q (suc k) e up lt is =
    ap (λ es. (f, s) ∷ es) (taken_out fs ss q k (omega (arith, e)) (λ i j low high. up (suc i) (suc j) (omega arith) (omega arith)) (omega arith) is)
    ∙ sym (ap (λ o. cond (not (is_eq o)) ((f, s) ∷ where_key order (other_than q) (zip fs ss)) (where_key order (other_than q) (zip fs ss))) (above f q (subst (IsBelow f) is (up 0 (suc k) (omega arith) lt))))

pub keys_zip : (fs : List Text) (ss : List Ids) → length ss ≡ length fs → map (λ (e : Text × Ids). e.0) (zip fs ss) ≡ fs
keys_zip [] ss e = refl
keys_zip (f ∷ fs) [] e = absurd (omega (arith, e))
keys_zip (f ∷ fs) (s ∷ ss) e = ap (λ l. f ∷ l) (keys_zip fs ss (omega (arith, e)))

pub length_zip : (fs : List Text) (ss : List Ids) → length ss ≡ length fs → length (zip fs ss) ≡ length fs
length_zip [] ss e = refl
length_zip (f ∷ fs) [] e = absurd (omega (arith, e))
length_zip (f ∷ fs) (s ∷ ss) e = ap suc (length_zip fs ss (omega (arith, e)))
