-- What a list has, by its first item.
use Rattle.std.proofs.Common.{◌≡◌, ◌⊎◌, inl, inr, zero, suc, List, ◌∷◌, refl, arith}
use Rattle.std.specs.Prelude.{Contains}

pub here : {X : Type 0} (x : X) (xs : List X) → Contains (x ∷ xs) x
here x xs = (0, omega arith, refl)

pub later : {X : Type 0} (x : X) (xs : List X) (q : X) → Contains xs q → Contains (x ∷ xs) q
later x xs q (k, lt, is) = (suc k, omega (arith, lt), is)

pub first_or : {X : Type 0} (x : X) (xs : List X) (q : X) → Contains (x ∷ xs) q → (x ≡ q) ⊎ Contains xs q
first_or x xs q (zero, lt, is) = inl is
first_or x xs q (suc k, lt, is) = inr (k, omega (arith, lt), is)
