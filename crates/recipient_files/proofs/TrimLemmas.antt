-- Dropping spaces from the end, one at a time.
use Rattle.std.proofs.Common.{◌≡◌, ◌≢◌, ℕ, ◌-◌, ◌+◌, ◌<◌, suc, List, [], ◌∷◌, ◌++◌, length, get_or, take, cond, refl, ap, sym, ◌∙◌, arith, ne_eqb}
use Rattle.std.proofs.lemmas.List.{take_more, take_all}
use Rattle.recipient_files.specs.RuleText.{trim_end, unless_space}

trim-push : (xs : List ℕ) → trim_end (xs ++ 32 ∷ []) ≡ trim_end xs
trim-push [] = refl
trim-push (x ∷ xs) = ap (unless_space x) (trim-push xs)

pub trim_more : (xs : List ℕ) → 0 < length xs → get_or xs (length xs - 1) 0 ≡ 32 → trim_end (take (length xs - 1) xs) ≡ trim_end xs
trim_more xs h e =
    sym (trim-push (take (length xs - 1) xs))
    ∙ ap trim_end (ap (λ b. take (length xs - 1) xs ++ b ∷ []) (sym e) ∙ (sym (take_more xs (length xs - 1) 0 (omega arith)) ∙ take_all (length xs - 1 + 1) xs (omega arith)))

pub trim_done : (xs : List ℕ) → (0 < length xs → get_or xs (length xs - 1) 0 ≢ 32) → trim_end xs ≡ xs
trim_done [] h = refl
trim_done (x ∷ []) h = ap (λ b. cond b [] (x ∷ [])) (ne_eqb x 32 (h (omega arith)))
trim_done (x ∷ y ∷ xs) h = ap (unless_space x) (trim_done (y ∷ xs) (λ _ e. h (omega arith) (ap (λ n. get_or (x ∷ y ∷ xs) n 0) {x = length (x ∷ y ∷ xs) - 1} {y = suc (length (y ∷ xs) - 1)} (omega arith) ∙ e)))
