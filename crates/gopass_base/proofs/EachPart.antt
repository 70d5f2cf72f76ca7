-- A test of each part of a text, and the fact that it decides.
use Rattle.std.proofs.Common.{◌↔◌, ℕ, ◌<◌, Bool, true, false, not, List, [], length, IsTrue, All, refl}
use Rattle.std.specs.Bool.{MatchBool}
use Rattle.std.specs.List.{AllWithin, HoldsAt}
use Rattle.std.proofs.lemmas.List.Elements.{All-from_all_within}

pub each_is : (P : List ℕ → Type 0) (r : Bool) (xs : List (List ℕ)) → MatchBool r (AllWithin P xs 0 (length xs)) ((k : ℕ) × (k < length xs) × HoldsAt (λ x. ¬ P x) xs k) → IsTrue r ↔ All P xs
each_is P true xs m = (λ t. All-from_all_within P xs m, λ a. refl)
each_is P false xs m = (λ t. absurd (cc), λ a. absurd (m.2 [] (a m.0 [] m.1)))

pub none_is : (P : List ℕ → Type 0) (r : Bool) (xs : List (List ℕ)) → MatchBool r ((k : ℕ) × (k < length xs) × HoldsAt P xs k) (AllWithin (λ x. ¬ P x) xs 0 (length xs)) → IsTrue (not r) ↔ All (λ x. ¬ P x) xs
none_is P true xs m = (λ t. absurd (cc), λ a. absurd (a m.0 [] m.1 (m.2 [])))
none_is P false xs m = (λ t. All-from_all_within (λ x. ¬ P x) xs m, λ a. refl)
