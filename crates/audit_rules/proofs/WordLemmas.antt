-- Zero bytes at the end of a word.
use Rattle.std.proofs.Common.{◌≡◌, ℕ, zero, suc, ◌<◌, List, [], ◌∷◌, length, get_or, take, refl, sym, ap, subst, ◌∙◌, arith}
use Rattle.audit_rules.specs.Words.{before, without_zeros}

-- a zero byte at the end says nothing
pub zero_dropped : (n : ℕ) (bytes : List ℕ) → n < length bytes → get_or bytes n 0 ≡ 0 → without_zeros (take (suc n) bytes) ≡ without_zeros (take n bytes)
zero_dropped n [] lt is_zero = absurd (omega arith)
zero_dropped zero (b ∷ bytes) lt is_zero = ap (λ x. before x []) is_zero
zero_dropped (suc n) (b ∷ bytes) lt is_zero = ap (before b) (zero_dropped n bytes (omega arith) is_zero)

-- bytes whose last is no zero stand
pub all_kept : (n : ℕ) (bytes : List ℕ) → n < length bytes → (get_or bytes n 0 ≡ 0 → ⊥) → without_zeros (take (suc n) bytes) ≡ take (suc n) bytes
all_kept n [] lt some = absurd (omega arith)
all_kept zero (zero ∷ bytes) lt some = absurd (some refl)
all_kept zero (suc b ∷ bytes) lt some = refl
all_kept (suc n) (b ∷ []) lt some = absurd (omega arith)
all_kept (suc n) (b ∷ next ∷ bytes) lt some = ap (before b) (all_kept n (next ∷ bytes) (omega arith) some) ∙ before_more b next (take n bytes)
  where
    before_more : (b next : ℕ) (bytes : List ℕ) → before b (next ∷ bytes) ≡ b ∷ next ∷ bytes
    before_more zero next bytes = refl
    before_more (suc b) next bytes = refl

-- the same from the end of the bytes
pub shorter : (end m : ℕ) (bytes : List ℕ) → end ≡ suc m → m < length bytes → get_or bytes m 0 ≡ 0 → without_zeros (take m bytes) ≡ without_zeros (take end bytes)
shorter end m bytes e lt is_zero = subst (λ n. without_zeros (take m bytes) ≡ without_zeros (take n bytes)) (sym e) (sym (zero_dropped m bytes lt is_zero))

pub kept : (end m : ℕ) (bytes : List ℕ) → end ≡ suc m → m < length bytes → (get_or bytes m 0 ≡ 0 → ⊥) → take end bytes ≡ without_zeros (take end bytes)
kept end m bytes e lt last = subst (λ n. take n bytes ≡ without_zeros (take n bytes)) (sym e) (sym (all_kept m bytes lt last))
