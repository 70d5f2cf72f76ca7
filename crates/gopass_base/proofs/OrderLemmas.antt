-- Lists in rising order.
use Rattle.std.proofs.Common.{◌≡◌, ◌+◌, Bool, true, false, ◌&&◌, T, List, get_or, nat_eq, refl, ap, ◌∙◌, arith}
use Rattle.std.specs.List.Sorted.{IsSortedBy}
use Rattle.std.specs.Ordering.{nat_cmp, is_lt, ordering_reverse}
use Rattle.std.specs.declared.cmp.Ordering.{Ordering}
use Rattle.std.specs.declared.cmp.Ordering.TheVariants.{Less, Equal, Greater}
use Rattle.std.specs.Cmp.Lexicographic.{pointwise, slice_cmp, texts_ties}
use Rattle.std.proofs.lemmas.Cmp.{nat_list_cmp_total, nat_list_eq_equiv}
use Rattle.std.proofs.lemmas.List.Filters.{dedup_is}
use Rattle.std.proofs.lemmas.List.Kept.{IsStrictlySortedBy-dedup, Contains-dedup, Contains-from_dedup}
use Rattle.std.proofs.lemmas.List.Sorted.{Contains-permutation, IsPermutation-sym}
use Rattle.std.proofs.lemmas.Slice.Eq.{bytes_eq-Decides}
use Rattle.std.proofs.lemmas.Map.Keys.{Less-from_sorted}
use Rattle.gopass_base.specs.Text.{Text}
use Rattle.gopass_base.specs.Order.{IsRising, IsSetOf, IsSortedOnce}

pub both : (a b : Bool) → T (a && b) → T a × T b
both true b t = (tt, t)
both false b t = absurd t

pub less : (o : Ordering) → T (is_lt o) → o ≡ Less
less Less t = refl
less Equal t = absurd t
less Greater t = absurd t

pub above : (a b : Text) → slice_cmp nat_cmp a b ≡ Less → slice_cmp nat_cmp b a ≡ Greater
above a b h = nat_list_cmp_total.antisymm b a ∙ ap ordering_reverse h

-- no text of a rising list is below the one before it
pub sorted : (texts : List Text) → IsRising texts → IsSortedBy (λ a b. is_lt (slice_cmp nat_cmp a b)) texts
sorted texts up k d low lt = ap is_lt (above (get_or texts k d) (get_or texts (k + 1) d) (Less-from_sorted (slice_cmp nat_cmp) texts k (k + 1) d up (omega arith) lt))

-- sorted texts, each of them once, are the set of the texts
pub set_of_sorted : (texts set : List Text) → IsSortedOnce (slice_cmp nat_cmp) (pointwise nat_eq) texts set → IsSetOf set texts
set_of_sorted texts set once =
    let is = dedup_is (pointwise nat_eq) once.sorted set once.kept in
    record {
      rising = rw is (IsStrictlySortedBy-dedup nat_list_cmp_total texts_ties once.sorted once.rises);
      same = λ text. (
        λ h. Contains-permutation once.sorted texts text (IsPermutation-sym texts once.sorted once.moved) (Contains-from_dedup (pointwise nat_eq) once.sorted text (rw is at h)),
        λ h. rw is (Contains-dedup nat_list_eq_equiv (λ x y e. (bytes_eq-Decides x y).0 e) once.sorted text (Contains-permutation texts once.sorted text once.moved h)),
      );
    }
