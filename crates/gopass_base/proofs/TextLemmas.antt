-- Parts that are joined are cut again.
use Rattle.std.proofs.Common.{◌≡◌, ◌≢◌, ◌≤◌, List, [], ◌∷◌, length, eqb, false, All, refl, ap, ◌∙◌, arith, ne_eqb}
use Rattle.std.specs.List.{join_with_byte}
use Rattle.std.proofs.lemmas.List.Elements.{All-head, All-tail}
use Rattle.std.proofs.lemmas.List.Splits.{join_with_byte-slice_split, slice_split_none, slice_split_at}
use Rattle.gopass_base.specs.Text.{Text}
use Rattle.gopass_base.specs.Parts.{parts}

abbrev IsWhole : Text → Type 0
IsWhole part = All (λ b. b ≢ 47) part

whole : (part : Text) → IsWhole part → All (λ b. eqb b 47 ≡ false) part
whole part h = λ k d lt. ne_eqb _ 47 (h k d lt)

pub joined_again : (text : Text) → join_with_byte 47 (parts text) ≡ text
joined_again text = join_with_byte-slice_split 47 text

pub cut_again : (texts : List Text) → 1 ≤ length texts → All IsWhole texts → parts (join_with_byte 47 texts) ≡ texts
cut_again [] some h = absurd (omega arith)
cut_again (p ∷ []) some h = slice_split_none (λ b. eqb b 47) p (whole p (All-head IsWhole p [] h))
cut_again (p ∷ q ∷ texts) some h =
    slice_split_at (λ b. eqb b 47) p 47 (join_with_byte 47 (q ∷ texts)) (whole p (All-head IsWhole p (q ∷ texts) h)) refl
    ∙ ap (λ l. p ∷ l) (cut_again (q ∷ texts) (omega arith) (All-tail IsWhole p (q ∷ texts) h))
