-- What sorting and dropping what stands twice makes of a list of ids.
use Rattle.std.proofs.Common.{arith, ◌≡◌, ◌≢◌, ◌≤◌, ◌<◌, ℕ, ◌+◌, [], ◌∷◌, ◌++◌, length, take, get_or, All, nat_eq, refl, sym, ap, ◌∙◌}
use Rattle.gopass_base.specs.Text.{Text}
use Rattle.std.specs.List.Retain.{DiffersFromLast, IsFiltered}
use Rattle.std.specs.List.Sorted.{IsPermutation}
use Rattle.std.specs.Cmp.Lexicographic.{pointwise}
use Rattle.std.proofs.lemmas.List.Filters.{dedup_is, All-dedup}
use Rattle.std.proofs.lemmas.List.Sorted.{All-permutation}
use Rattle.std.proofs.lemmas.List.{take_more}
use Rattle.std.proofs.lemmas.List.Elements.{All-push}
use Rattle.gopass_base.specs.Order.{IsSetOf}
use Rattle.recipient_files.specs.Ids.{Ids, IsId, IsRecipients}

-- each of what is left of the sorted ids is an id
pub ids_of_sorted : (ids sorted set : Ids) → IsPermutation ids sorted
    → IsFiltered (DiffersFromLast (pointwise nat_eq)) [] sorted set → All IsId ids → All IsId set
ids_of_sorted ids sorted set moved kept each =
    rw (dedup_is (pointwise nat_eq) sorted set kept) (All-dedup (pointwise nat_eq) IsId sorted (All-permutation IsId ids sorted moved each))

-- the set of some ids has some
some_of_set : (set ids : Ids) → IsSetOf set ids → ids ≢ [] → 1 ≤ length set
some_of_set set [] is some = absurd (some refl)
some_of_set [] (id ∷ ids) is some = let (k, lt, at) = (is.same id).1 (0, omega arith, refl) in omega arith
some_of_set (one ∷ set) (id ∷ ids) is some = omega arith

-- a set of 1 to 64 ids
pub recipients_of_set : (set ids : Ids) → IsSetOf set ids → ids ≢ [] → length set ≤ 64 → All IsId set → IsRecipients set
recipients_of_set set ids is some few each = record {
  some = some_of_set set ids is some;
  few = few;
  each = each;
  rising = is.rising;
}

-- one copy more
pub copied_more : (ids copies new : Ids) (i : ℕ) (copy id : Text) → i < length ids → id ≡ get_or ids i id → copy ≡ id
    → copies ≡ take i ids → new ≡ copies ++ copy ∷ [] → new ≡ take (i + 1) ids
copied_more ids copies new i copy id lt is same all more =
    more ∙ ap (λ (l : Ids). l ++ copy ∷ []) all ∙ ap (λ (x : Text). take i ids ++ x ∷ []) (same ∙ is) ∙ sym (take_more ids i id lt)

-- and each copy is an id
pub each_more : (copies new : Ids) (copy : Text) → All IsId copies → IsId copy → new ≡ copies ++ copy ∷ [] → All IsId new
each_more copies new copy each good more = rw more (All-push IsId copies copy each good)
