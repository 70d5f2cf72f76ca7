-- A text stands in bytes exactly where it occurs at some place of them.
use Rattle.std.proofs.Common.{◌≡◌, ℕ, zero, suc, ◌+◌, true, ◌||◌, nat_eq, [], ◌∷◌, length, take, slice_index, Option, None, Some, is_some, sym, ap, ◌∙◌, arith, inl, inr, length-take}
use Rattle.std.specs.List.{starts_with}
use Rattle.std.proofs.lemmas.Bool.{cases_Bool, or_cases, or_right, eqb-true, eq-eqb}
use Rattle.std.proofs.lemmas.Slice.Eq.{bytes_eq-Decides}
use Rattle.gopass_base.specs.Text.{Text}
use Rattle.memchr.specs.Find.{OccursAt, FindsNeedle}
use Rattle.memchr.proofs.lemmas.MatchLemmas.{OccursAt-part, OccursAt-from_part}
use Rattle.text_search.specs.Search.{has_text}

begun : (text bytes : Text) → starts_with nat_eq bytes text ≡ true → OccursAt bytes text 0
begun text bytes e =
    let part : take (length text) bytes ≡ text = sym ((bytes_eq-Decides text (take (length text) bytes)).0 e) in
    OccursAt-from_part bytes text 0 (omega (arith, length-take (length text) bytes, ap length part)) part

begins : (text bytes : Text) → OccursAt bytes text 0 → starts_with nat_eq bytes text ≡ true
begins text bytes at = (bytes_eq-Decides text (take (length text) bytes)).1 (sym (OccursAt-part bytes text 0 at))

later : (text bytes : Text) (b k : ℕ) → OccursAt bytes text k → OccursAt (b ∷ bytes) text (suc k)
later text bytes b k at = record {
  fits = omega (arith, at.fits);
  reads = λ j lt. let place : suc k + j ≡ suc (k + j) = omega arith in ap (λ n. slice_index (b ∷ bytes) n) place ∙ at.reads j lt;
}

earlier : (text bytes : Text) (b k : ℕ) → OccursAt (b ∷ bytes) text (suc k) → OccursAt bytes text k
earlier text bytes b k at = record {
  fits = omega (arith, at.fits);
  reads = λ j lt. let place : suc k + j ≡ suc (k + j) = omega arith in sym (ap (λ n. slice_index (b ∷ bytes) n) place) ∙ at.reads j lt;
}

-- a text that the bytes have occurs somewhere
pub place_of : (text bytes : Text) → has_text text bytes ≡ true → (k : ℕ) × OccursAt bytes text k
place_of text [] had =
    let none : length text ≡ 0 = eqb-true (length text) 0 had in
    (0, record { fits = omega (arith, none); reads = λ j lt. absurd (omega (arith, none, lt)) })
place_of text (b ∷ bytes) had = elim (or_cases (starts_with nat_eq (b ∷ bytes) text) (has_text text bytes) had) [
  | inl here ↦ (0, begun text (b ∷ bytes) here)
  | inr behind ↦ let (k, at) = place_of text bytes behind in (suc k, later text bytes b k at)
]

-- the bytes have a text that occurs somewhere
pub has_at : (text bytes : Text) (k : ℕ) → OccursAt bytes text k → has_text text bytes ≡ true
has_at text [] k at = eq-eqb (length text) 0 (omega (arith, at.fits))
has_at text (b ∷ bytes) zero at = ap (λ x. x || has_text text bytes) (begins text (b ∷ bytes) at)
has_at text (b ∷ bytes) (suc k) at = or_right (starts_with nat_eq (b ∷ bytes) text) (has_text text bytes) (has_at text bytes k (earlier text bytes b k at))

-- a search for the text finds a place exactly where the bytes have it
pub found_where_had : (text bytes : Text) (r : Option ℕ) → FindsNeedle bytes text 0 r → is_some r ≡ has_text text bytes
found_where_had text bytes None nowhere = elim (cases_Bool (has_text text bytes)) [
  | inl had ↦ let (k, at) = place_of text bytes had in absurd (nowhere k (omega arith) (omega (arith, at.fits)) at)
  | inr missed ↦ sym missed
]
found_where_had text bytes (Some k) found = sym (has_at text bytes k found.1)
