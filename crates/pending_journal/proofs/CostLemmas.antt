-- How often the disk is asked.
use Rattle.std.proofs.Common.{◌≡◌, ◌⊎◌, inl, inr, ℕ, ◌+◌, ◌≤◌, true, Result, Ok, Err, refl, subst, arith}
use Rattle.std.specs.Prelude.{min, IsOk, IsErr, OnErr}
use Rattle.std.proofs.Math.Nat.{min-le_left, min-le_right, min-eq_left, min-eq_right}
use Rattle.std.proofs.lemmas.Bool.{cases_lt, false≢true}
use Rattle.gopass_base.specs.Faults.{Costs, counted}

-- a count of 64 bits has come to n, or stands at its last value
reaches : (n now : ℕ) → min n 18446744073709551615 ≤ now → (n ≤ now) ⊎ (18446744073709551615 ≤ now)
reaches n now le = elim (cases_lt n 18446744073709551615) [
  | inl lt ↦ (let is : min n 18446744073709551615 ≡ n = min-eq_left (omega (arith, lt)) in inl (omega (arith, is, le)))
  | inr ge ↦ (let is : min n 18446744073709551615 ≡ 18446744073709551615 = min-eq_right ge in inr (omega (arith, is, le)))
]

has_come : (n now : ℕ) → (n ≤ now) ⊎ (18446744073709551615 ≤ now) → min n 18446744073709551615 ≤ now
has_come n now (inl le) = omega (arith, min-le_left n 18446744073709551615)
has_come n now (inr ge) = omega (arith, min-le_right n 18446744073709551615)

-- nothing was asked
pub costs_none : {P : Type 0} (n before : ℕ) → ¬ P → Costs n before before P
costs_none n before none = record { later = omega arith; most = omega arith; all = λ done. absurd (none done) }

pub costs_zero : {P : Type 0} (before : ℕ) → Costs 0 before before P
costs_zero before = record { later = omega arith; most = omega arith; all = λ done. has_come (before + 0) before (inl (omega arith)) }

-- one call
pub costs_one : {P : Type 0} {before now : ℕ} → now ≡ counted before → before ≤ now → Costs 1 before now P
costs_one {before = before} {now = now} is le =
    let bound = min-le_left (before + 1) 18446744073709551615 in
    record { later = le; most = omega (arith, is, bound); all = λ done. omega (arith, is) }

-- more calls behind them
pub costs_then : {P Q R : Type 0} {m n a b c : ℕ} → (R → P) → (R → Q) → Costs m a b P → Costs n b c Q → Costs (m + n) a c R
costs_then {m = m} {n = n} {a = a} {b = b} {c = c} p q s t = record {
  later = omega (arith, s.later, t.later);
  most = omega (arith, s.most, t.most);
  all = λ done. has_come (a + (m + n)) c (elim (reaches (a + m) b (s.all (p done))) [
    | inr stands ↦ inr (omega (arith, stands, t.later))
    | inl le ↦ elim (reaches (b + n) c (t.all (q done))) [
      | inr stands ↦ inr stands
      | inl le' ↦ inl (omega (arith, le, le'))
    ]
  ]);
}

pub costs_next : {Q : Type 0} {m n a b c : ℕ} → Costs m a b (true ≡ true) → Costs n b c Q → Costs (m + n) a c Q
costs_next s t = costs_then (λ done. refl) (λ done. done) s t

-- as many
pub costs_is : {P Q : Type 0} {m n a b : ℕ} → m ≡ n → (Q → P) → Costs m a b P → Costs n a b Q
costs_is {P = P} {a = a} {b = b} is q s =
    let t = subst (λ (k : ℕ). Costs k a b P) is s in
    record { later = t.later; most = t.most; all = λ done. t.all (q done) }

-- where it was not done there may be fewer
pub costs_err : {T E P : Type 0} {m n a b : ℕ} (r : Result T E) → IsErr r → m ≤ n → Costs m a b P → Costs n a b (IsOk r)
costs_err (Ok x) err le s = absurd (false≢true err)
costs_err (Err e) err le s = record { later = s.later; most = omega (arith, le, s.most); all = λ done. absurd (false≢true done) }

-- no more than that
pub costs_most : {P : Type 0} {m n a b : ℕ} → m ≤ n → Costs m a b P → Costs n a b ⊥
costs_most le s = record { later = s.later; most = omega (arith, le, s.most); all = λ none. absurd none }

pub on_err : {T E P : Type 0} (r : Result T E) → P → OnErr r P
on_err (Ok x) p = tt
on_err (Err e) p = p
