-- A finite map from a rising list of keys.
use Rattle.std.proofs.Common.{◌≡◌, ◌⊎◌, inl, inr, zero, suc, Bool, true, false, ◌&&◌, T, List, [], ◌∷◌, cond, Option, Some, None, refl, ap, sym, ◌∙◌, subst, arith}
use Rattle.std.specs.Prelude.{Contains, map as each}
use Rattle.std.specs.List.{AllByRecursion}
use Rattle.std.specs.List.Sorted.{IsStrictlySortedBy}
use Rattle.std.specs.Ordering.{nat_cmp, is_lt, is_eq, eq_by_cmp}
use Rattle.std.specs.declared.cmp.Ordering.{Ordering}
use Rattle.std.specs.declared.cmp.Ordering.TheVariants.{Less, Equal, Greater}
use Rattle.std.specs.Cmp.Lexicographic.{slice_cmp}
use Rattle.std.specs.FinMap.Entries.{is_sorted, below_all, find}
use Rattle.std.proofs.lemmas.Bool.{true≢false}
use Rattle.std.proofs.lemmas.Cmp.{nat_list_cmp_total, tied_itself}
use Rattle.std.proofs.lemmas.Map.Lookups.{exact_bytes}
use Rattle.gopass_base.specs.Text.{Text}
use Rattle.gopass_base.proofs.ListLemmas.{here, later, first_or}

both_on : (a b : Bool) → T a → T b → T (a && b)
both_on true b p q = q
both_on false b p q = absurd p

pub ties : (q key : Text) → q ≡ key → eq_by_cmp (slice_cmp nat_cmp) q key ≡ true
ties q key same = ap is_eq (subst (λ (t : Text). slice_cmp nat_cmp q t ≡ Equal) same (tied_itself nat_list_cmp_total q))

pub equal : (o : Ordering) → is_eq o ≡ true → o ≡ Equal
equal Less e = absurd (cc)
equal Equal e = refl
equal Greater e = absurd (cc)

module _ {X : Type 0} where
  -- each key with its value
  pub tabled : (keys : List Text) → ((q : Text) → Contains keys q → X) → List (Text × X)
  tabled [] value = []
  tabled (key ∷ keys) value = (key, value key (here key keys)) ∷ tabled keys (λ q has. value q (later key keys q has))

  below_tabled : (x : Text) (keys : List Text) (value : (q : Text) → Contains keys q → X) → AllByRecursion (λ y. slice_cmp nat_cmp x y ≡ Less) keys → T (below_all (slice_cmp nat_cmp) x (tabled keys value))
  unfolding tabled
  below_tabled x [] value h = tt
  below_tabled x (key ∷ keys) value h = both_on (is_lt (slice_cmp nat_cmp x key)) (below_all (slice_cmp nat_cmp) x (tabled keys (λ q has. value q (later key keys q has))))
      (subst (λ (o : Ordering). T (is_lt o)) (sym h.0) tt) (below_tabled x keys (λ q has. value q (later key keys q has)) h.1)

  pub sorted_tabled : (keys : List Text) (value : (q : Text) → Contains keys q → X) → IsStrictlySortedBy (slice_cmp nat_cmp) keys → T (is_sorted (slice_cmp nat_cmp) (tabled keys value))
  unfolding IsStrictlySortedBy tabled
  sorted_tabled [] value up = tt
  sorted_tabled (key ∷ keys) value up = both_on (below_all (slice_cmp nat_cmp) key (tabled keys (λ q has. value q (later key keys q has)))) (is_sorted (slice_cmp nat_cmp) (tabled keys (λ q has. value q (later key keys q has))))
      (below_tabled key keys (λ q has. value q (later key keys q has)) up.0) (sorted_tabled keys (λ q has. value q (later key keys q has)) up.1)

  -- what is found of a key: one of its values, where it is there, and nothing where it is not
  abbrev pub Finds : (keys : List Text) → ((q : Text) → Contains keys q → X) → Text → Option X → Type 0
  Finds keys value q found = ((has : Contains keys q) × (found ≡ Some (value q has))) ⊎ ((Contains keys q → ⊥) × (found ≡ None))

  pub finds : (keys : List Text) (value : (q : Text) → Contains keys q → X) (q : Text) → Finds keys value q (find (slice_cmp nat_cmp) q (tabled keys value))
  unfolding tabled
  finds [] value q = inr (λ (k, lt, is). omega (arith, lt), refl)
  finds (key ∷ keys) value q =
      let rest = finds keys (λ p has. value p (later key keys p has)) q in
      elim (eq_by_cmp (slice_cmp nat_cmp) q key) as (λ t. eq_by_cmp (slice_cmp nat_cmp) q key ≡ t
      → ((has : Contains (key ∷ keys) q) × (cond t (Some (value key (here key keys))) (find (slice_cmp nat_cmp) q (tabled keys (λ p has. value p (later key keys p has)))) ≡ Some (value q has)))
      ⊎ ((Contains (key ∷ keys) q → ⊥) × (cond t (Some (value key (here key keys))) (find (slice_cmp nat_cmp) q (tabled keys (λ p has. value p (later key keys p has)))) ≡ None))) [
        | true ↦ λ e. (let same : key ≡ q = sym (exact_bytes q key (equal (slice_cmp nat_cmp q key) e)) in
            inl (subst (λ (p : Text). (has : Contains (key ∷ keys) p) × (Some (value key (here key keys)) ≡ Some (value p has))) same (here key keys, refl)))
        | false ↦ λ e. elim rest [
          | inl (has, is) ↦ inl (later key keys q has, is)
          | inr (none, is) ↦ inr (
            λ has. elim (first_or key keys q has) [
              | inl same ↦ true≢false (sym (ties q key (sym same)) ∙ e)
              | inr more ↦ none more
            ],
            is,
          )
        ]
      ] refl

module _ {X : Type 0} where
  -- the values of a table
  pub values_of : (keys : List Text) → ((q : Text) → Contains keys q → X) → List X
  values_of [] value = []
  values_of (key ∷ keys) value = value key (here key keys) ∷ values_of keys (λ q has. value q (later key keys q has))

  pub value_there : (keys : List Text) (value : (q : Text) → Contains keys q → X) (q : Text) → Contains keys q → (has : Contains keys q) × Contains (values_of keys value) (value q has)
  unfolding values_of
  value_there [] value q (k, lt, is) = absurd (omega (arith, lt))
  value_there (key ∷ keys) value q has = elim (first_or key keys q has) [
    | inl same ↦ subst (λ (p : Text). (h : Contains (key ∷ keys) p) × Contains (value key (here key keys) ∷ values_of keys (λ p h. value p (later key keys p h))) (value p h)) same (here key keys, (0, omega arith, refl))
    | inr more ↦ (let (h, (k, lt, is)) = value_there keys (λ p h. value p (later key keys p h)) q more in (later key keys q h, (suc k, omega arith, is)))
  ]

  pub key_of_value : (keys : List Text) (value : (q : Text) → Contains keys q → X) (x : X) → Contains (values_of keys value) x → (q : Text) × (has : Contains keys q) × (value q has ≡ x)
  unfolding values_of
  key_of_value [] value x (k, lt, is) = absurd (omega (arith, lt))
  key_of_value (key ∷ keys) value x (zero, lt, is) = (key, here key keys, is)
  key_of_value (key ∷ keys) value x (suc k, lt, is) = (let (q, has, same) = key_of_value keys (λ p h. value p (later key keys p h)) x (k, omega arith, is) in (q, later key keys q has, same))

  pub keys_tabled : (keys : List Text) (value : (q : Text) → Contains keys q → X) → each (λ (e : Text × X). e.0) (tabled keys value) ≡ keys
  unfolding tabled
  keys_tabled [] value = refl
  keys_tabled (key ∷ keys) value = ap (λ l. key ∷ l) (keys_tabled keys (λ q has. value q (later key keys q has)))
