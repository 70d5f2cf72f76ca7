-- The ring of one tool.
use Rattle.std.proofs.Common.{◌≡◌, ◌<◌, ℕ, zero, suc, List, [], ◌∷◌, length, get_or, refl, sym, subst, arith}

-- the tools of a list of one have the ring of that one
pub have_one : {C R : Type 0} (ring : C → R) (tool : C) (tools : List C) → tools ≡ tool ∷ [] → (k : ℕ) (d : C) → k < length tools → ring (get_or tools k d) ≡ ring tool
have_one {C = C} ring tool tools e = subst (λ (ts : List C). (k : ℕ) (d : C) → k < length ts → ring (get_or ts k d) ≡ ring tool) (sym e) (λ k d lt. at k d lt)
  where
    at : (k : ℕ) (d : C) → k < length (tool ∷ []) → ring (get_or (tool ∷ []) k d) ≡ ring tool
    at zero d lt = refl
    at (suc k) d lt = absurd (omega arith)
