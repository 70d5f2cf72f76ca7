-- The keys of a finite map from texts.
use Rattle.std.proofs.Common.{◌≡◌, ◌≤◌, true, T, List, [], ◌∷◌, length, Option, Some, None, refl, ap, sym, ◌∙◌, arith}
use Rattle.std.specs.Prelude.{Contains, is_some, map as each}
use Rattle.std.specs.List.{list_any, AllByRecursion}
use Rattle.std.specs.List.Sorted.{IsStrictlySortedBy}
use Rattle.std.specs.Ordering.{nat_cmp, is_lt, eq_by_cmp}
use Rattle.std.specs.declared.cmp.Ordering.TheVariants.{Less}
use Rattle.std.specs.Cmp.{eq_by_cmp_equiv}
use Rattle.std.specs.Cmp.Lexicographic.{slice_cmp}
use Rattle.std.specs.FinMap as map
use Rattle.std.specs.FinMap.Entries.{is_sorted, below_all}
use Rattle.std.proofs.lemmas.Bool.{false≢true}
use Rattle.std.proofs.lemmas.Cmp.{nat_list_cmp_total}
use Rattle.std.proofs.lemmas.List.{length-map}
use Rattle.std.proofs.lemmas.Map.Views.{Contains-from_any, list_any-from_Contains}
use Rattle.std.proofs.lemmas.Map.Lookups.{exact_bytes}
use Rattle.gopass_base.specs.Text.{Text}
use Rattle.disk_model.proofs.ListingLemmas.{as_long}
use Rattle.gopass_base.specs.Order.{IsRising, TextMap}
use Rattle.gopass_base.proofs.OrderLemmas.{both, less}
use Rattle.store_state.proofs.TableLemmas.{equal}

-- ---- a key has a value, and what has a value is a key

module _ {X : Type 0} (rows : TextMap X) (name : Text) where
  any_key : is_some (map.get rows name) ≡ list_any (eq_by_cmp (slice_cmp nat_cmp) name) (map.keys rows)
  any_key = map.contains_key-keys rows name

  same_key : (x y : Text) → eq_by_cmp (slice_cmp nat_cmp) x y ≡ true → x ≡ y
  same_key x y e = exact_bytes x y (equal (slice_cmp nat_cmp x y) e)

  has_by : (row : Option X) → map.get rows name ≡ row → (Contains (map.keys rows) name → ⊥) → map.get rows name ≡ None
  has_by None is out = is
  has_by (Some x) is out = absurd (out (Contains-from_any same_key name (map.keys rows) (sym any_key ∙ ap is_some is)))

  -- a text that is none of the keys has no value
  pub row_missing : (Contains (map.keys rows) name → ⊥) → map.get rows name ≡ None
  row_missing out = has_by (map.get rows name) refl out

  -- what has a value is a key
  pub key_there : (x : X) → map.get rows name ≡ Some x → Contains (map.keys rows) name
  key_there x is = Contains-from_any same_key name (map.keys rows) (sym any_key ∙ ap is_some is)

  there_by : (row : Option X) → map.get rows name ≡ row → Contains (map.keys rows) name → (x : X) × (map.get rows name ≡ Some x)
  there_by (Some x) is has = (x, is)
  there_by None is has = absurd (false≢true (sym (ap is_some is) ∙ (any_key ∙ list_any-from_Contains (eq_by_cmp_equiv nat_list_cmp_total) name (map.keys rows) has)))

  -- and one that is has one
  pub row_there : Contains (map.keys rows) name → (x : X) × (map.get rows name ≡ Some x)
  row_there has = there_by (map.get rows name) refl has

-- ---- the keys of a map rise

below_keys : {X : Type 0} (x : Text) (es : List (Text × X)) → T (below_all (slice_cmp nat_cmp) x es) → AllByRecursion (λ y. slice_cmp nat_cmp x y ≡ Less) (each (λ (e : Text × X). e.0) es)
below_keys x [] t = tt
below_keys x (e ∷ es) t =
    let (here, more) = both (is_lt (slice_cmp nat_cmp x e.0)) (below_all (slice_cmp nat_cmp) x es) t in
    (less (slice_cmp nat_cmp x e.0) here, below_keys x es more)

rising_entries : {X : Type 0} (es : List (Text × X)) → T (is_sorted (slice_cmp nat_cmp) es) → IsStrictlySortedBy (slice_cmp nat_cmp) (each (λ (e : Text × X). e.0) es)
unfolding IsStrictlySortedBy
rising_entries [] t = tt
rising_entries (e ∷ es) t =
    let (here, more) = both (below_all (slice_cmp nat_cmp) e.0 es) (is_sorted (slice_cmp nat_cmp) es) t in
    (below_keys e.0 es here, rising_entries es more)

pub keys_rise : {X : Type 0} (m : TextMap X) → IsRising (map.keys m)
keys_rise m = rising_entries (map.entries m) (map.entries_sorted m)

-- ---- how many there are

module _ {X : Type 0} (m : TextMap X) where
  pub length-keys : map.len m ≡ length (map.keys m)
  length-keys = map.len-entries m ∙ sym (length-map (map.entries m) (λ (e : Text × X). e.0))

-- a map whose keys are all in a rising list has no more of them than it
pub few_keys : {X : Type 0} (m : TextMap X) (names : List Text) → IsRising names → ((q : Text) → Contains (map.keys m) q → Contains names q) → map.len m ≤ length names
few_keys m names up has = omega (arith, length-keys m, as_long (map.keys m) names (keys_rise m) up has)

-- and one that has a value for each text of a rising list is as large as it at least
pub many_keys : {X : Type 0} (m : TextMap X) (names : List Text) → IsRising names → ((q : Text) → Contains names q → (x : X) × (map.get m q ≡ Some x)) → length names ≤ map.len m
many_keys m names up has = omega (arith, length-keys m, as_long names (map.keys m) up (keys_rise m) (λ q there. (let (x, is) = has q there in key_there m q x is)))
