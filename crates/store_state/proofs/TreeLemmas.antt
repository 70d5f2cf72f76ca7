-- The paths below a directory without the store's own, and how many they are.
use Rattle.std.proofs.Common.{◌≡◌, suc, ◌+◌, ◌<◌, ◌≤◌, Bool, true, false, not, ◌&&◌, ◌||◌, List, [], ◌∷◌, length, cond, bytes_eq, Result, Ok, Err, Vec, refl, ap, sym, ◌∙◌, subst, arith}
use Rattle.std.specs.Prelude.{filter}
use Rattle.std.specs.List.{AllByRecursion}
use Rattle.std.specs.List.Sorted.{IsStrictlySortedBy}
use Rattle.std.specs.Ordering.{nat_cmp}
use Rattle.std.specs.declared.cmp.Ordering.TheVariants.{Less, Equal}
use Rattle.std.specs.Cmp.Lexicographic.{slice_cmp}
use Rattle.std.proofs.lemmas.Cmp.{nat_list_cmp_total, tied_itself}
use Rattle.std.proofs.lemmas.Slice.Eq.{bytes_eq-Decides}
use Rattle.gopass_base.specs.Text.{Text}
use Rattle.disk_model.specs.Files.{Files}
use Rattle.disk_model.specs.Listing.{IsListing}
use Rattle.pending_journal.specs.Service.{without_service}
use Rattle.pending_journal.proofs.ListLemmas.{listing_hiding}
use Rattle.store_state.specs.declared.fault.StoreFault.{StoreFault}
use Rattle.store_state.specs.declared.fault.StoreFault.TheVariants.{BadFile, Full, Disk, NoMemory}
use Rattle.store_state.specs.declared.fault.Limit.TheVariants as limit
use Rattle.store_state.specs.declared.tree.Own.{Own}
use Rattle.store_state.specs.Faults.{GivesOrFull}
use Rattle.store_state.specs.Tree.{IsFullTree, IsOwnOf, IsTree, is_own, others_than, tree_files}

pub neither_is : (a b : Bool) → not a && not b ≡ not (a || b)
neither_is true b = refl
neither_is false b = refl

-- ---- two paths at most are left out

above_differs : (a y : Text) → slice_cmp nat_cmp a y ≡ Less → bytes_eq y a ≡ false
above_differs a y less = by (bytes_eq y a) refl
  where
    by : (t : Bool) → bytes_eq y a ≡ t → t ≡ false
    by true e = absurd (apart (sym (subst (λ (z : Text). slice_cmp nat_cmp a z ≡ Less) ((bytes_eq-Decides y a).0 e) less) ∙ tied_itself nat_list_cmp_total a))
      where
        apart : Less ≡ Equal → ⊥
        apart e = cc
    by false e = refl

module _ (other : Text → Bool) where
  -- none of the paths behind a is a
  none_is : (a : Text) (xs : List Text) → AllByRecursion (λ y. slice_cmp nat_cmp a y ≡ Less) xs → filter (λ p. not (bytes_eq p a || other p)) xs ≡ filter (λ p. not (other p)) xs
  none_is a [] h = refl
  none_is a (x ∷ xs) h =
      ap (λ t. cond (not (t || other x)) (x ∷ filter (λ p. not (bytes_eq p a || other p)) xs) (filter (λ p. not (bytes_eq p a || other p)) xs)) (above_differs a x h.0)
      ∙ ap (λ l. cond (not (other x)) (x ∷ l) l) (none_is a xs h.1)

all_stay : (a : Text) (xs : List Text) → AllByRecursion (λ y. slice_cmp nat_cmp a y ≡ Less) xs → filter (λ p. not (bytes_eq p a)) xs ≡ xs
all_stay a [] h = refl
all_stay a (x ∷ xs) h = ap (λ t. cond (not t) (x ∷ filter (λ p. not (bytes_eq p a)) xs) (filter (λ p. not (bytes_eq p a)) xs)) (above_differs a x h.0) ∙ ap (λ l. x ∷ l) (all_stay a xs h.1)

one_goes : (a : Text) (xs : List Text) → IsStrictlySortedBy (slice_cmp nat_cmp) xs → length xs ≤ length (filter (λ p. not (bytes_eq p a)) xs) + 1
unfolding IsStrictlySortedBy
one_goes a [] up = omega arith
one_goes a (x ∷ xs) up = elim (bytes_eq x a) as (λ t. bytes_eq x a ≡ t → suc (length xs) ≤ length (cond (not t) (x ∷ filter (λ p. not (bytes_eq p a)) xs) (filter (λ p. not (bytes_eq p a)) xs)) + 1) [
  | true ↦ λ e. (let same : x ≡ a = (bytes_eq-Decides x a).0 e in
      omega (arith, ap length (all_stay a xs (subst (λ (z : Text). AllByRecursion (λ y. slice_cmp nat_cmp z y ≡ Less) xs) same up.0))))
  | false ↦ λ e. omega (arith, one_goes a xs up.1)
] refl

turn_or : (a b : Text) (xs : List Text) → filter (λ p. not (bytes_eq p a || bytes_eq p b)) xs ≡ filter (λ p. not (bytes_eq p b || bytes_eq p a)) xs
turn_or a b [] = refl
turn_or a b (x ∷ xs) = ap (λ t. cond (not t) (x ∷ filter (λ p. not (bytes_eq p a || bytes_eq p b)) xs) (filter (λ p. not (bytes_eq p a || bytes_eq p b)) xs)) (turn (bytes_eq x a) (bytes_eq x b))
    ∙ ap (λ l. cond (not (bytes_eq x b || bytes_eq x a)) (x ∷ l) l) (turn_or a b xs)
  where
    turn : (s t : Bool) → s || t ≡ t || s
    turn true true = refl
    turn true false = refl
    turn false true = refl
    turn false false = refl

pub two_go : (a b : Text) (xs : List Text) → IsStrictlySortedBy (slice_cmp nat_cmp) xs → length xs ≤ length (others_than a b xs) + 2
unfolding IsStrictlySortedBy
two_go a b [] up = omega arith
two_go a b (x ∷ xs) up = elim (bytes_eq x a) as (λ s. bytes_eq x a ≡ s → suc (length xs) ≤ length (cond (not (s || bytes_eq x b)) (x ∷ others_than a b xs) (others_than a b xs)) + 2) [
  | true ↦ λ e. (let same : x ≡ a = (bytes_eq-Decides x a).0 e in
      omega (arith, ap length (none_is (λ p. bytes_eq p b) a xs (subst (λ (z : Text). AllByRecursion (λ y. slice_cmp nat_cmp z y ≡ Less) xs) same up.0)), one_goes b xs up.1))
  | false ↦ λ e. elim (bytes_eq x b) as (λ t. bytes_eq x b ≡ t → suc (length xs) ≤ length (cond (not t) (x ∷ others_than a b xs) (others_than a b xs)) + 2) [
    | true ↦ λ f. (let same : x ≡ b = (bytes_eq-Decides x b).0 f in
        omega (arith, ap length (turn_or a b xs), ap length (none_is (λ p. bytes_eq p a) b xs (subst (λ (z : Text). AllByRecursion (λ y. slice_cmp nat_cmp z y ≡ Less) xs) same up.0)), one_goes a xs up.1))
    | false ↦ λ f. omega (arith, two_go a b xs up.1)
  ] refl
] refl

-- ---- the listing of a tree

own_paths : (root : Text) (own : Own) (paths : List Text) → IsOwnOf root own → others_than own.mounts own.pending paths ≡ filter (λ path. not (is_own root path)) paths
own_paths root own paths is = λ i. others_than (is.mounts_is i) (is.pending_is i) paths

listing_of_tree : (root : Text) (own : Own) (files : Files) (dir : Text) (paths left : List Text) → IsOwnOf root own → IsListing (without_service root files) dir paths → left ≡ others_than own.mounts own.pending paths → IsListing (tree_files root files) dir left
listing_of_tree root own files dir paths left is h same = subst (IsListing (tree_files root files) dir) (sym (same ∙ own_paths root own paths is)) (listing_hiding (is_own root) (without_service root files) dir paths h)

pub few_tree : {Z : Type 0} (root : Text) (own : Own) (files : Files) (dir : Text) (paths left : List Text) (r : Result (Vec Text Z) StoreFault) → IsOwnOf root own → IsListing (without_service root files) dir paths → left ≡ others_than own.mounts own.pending paths
    → GivesOrFull (λ few. (few.items ≡ left) × (length few.items ≤ 40000)) (40000 < length left) r → GivesOrFull (λ paths. IsTree root files dir paths.items) (IsFullTree root files dir) r
few_tree root own files dir paths left (Ok few) is h same (kept, short) = record { listing = subst (IsListing (tree_files root files) dir) (sym kept) (listing_of_tree root own files dir paths left is h same); few = short }
few_tree root own files dir paths left (Err (Full limit.Files)) is h same full = (left, listing_of_tree root own files dir paths left is h same, full)
few_tree root own files dir paths left (Err Disk) is h same full = tt
few_tree root own files dir paths left (Err NoMemory) is h same full = tt
few_tree root own files dir paths left (Err (BadFile path line)) is h same full = full
few_tree root own files dir paths left (Err (Full limit.Mounts)) is h same full = full
few_tree root own files dir paths left (Err (Full limit.Rules)) is h same full = full
few_tree root own files dir paths left (Err (Full limit.Ids)) is h same full = full
few_tree root own files dir paths left (Err (Full limit.Secrets)) is h same full = full
few_tree root own files dir paths left (Err (Full limit.Body)) is h same full = full
few_tree root own files dir paths left (Err (Full limit.Changes)) is h same full = full
few_tree root own files dir paths left (Err (Full limit.Counter)) is h same full = full

pub many_tree : (root : Text) (own : Own) (files : Files) (dir : Text) (paths : List Text) → IsOwnOf root own → IsListing (without_service root files) dir paths → 40002 < length paths → IsFullTree root files dir
many_tree root own files dir paths is h more =
    (others_than own.mounts own.pending paths, listing_of_tree root own files dir paths (others_than own.mounts own.pending paths) is h refl, omega (arith, more, two_go own.mounts own.pending paths h.rising))
