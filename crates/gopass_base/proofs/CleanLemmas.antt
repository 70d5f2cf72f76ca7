-- Paths have no control byte, so no tab and no line feed; and what a text says that is cut at such a byte.
use Rattle.std.proofs.Common.{◌≡◌, ◌≢◌, ℕ, ◌<◌, List, [], ◌∷◌, ◌++◌, length, cond, eqb, Bool, true, false, All, refl, sym, subst, arith}
use Rattle.std.specs.List.{onto_first}
use Rattle.std.proofs.lemmas.List.Elements.{All-nil, All-cons, All-head, All-tail}
use Rattle.std.proofs.lemmas.Bool.Decides.{Decides-eqb}
use Rattle.gopass_base.specs.Text.{Text, IsPrintable}
use Rattle.gopass_base.specs.Lines.{Lacks}
use Rattle.gopass_base.specs.Parts.{parts}
use Rattle.gopass_base.specs.Paths.{IsDirPath}
use Rattle.gopass_base.proofs.JoinLemmas.{parts_some}

first_byte : (b : ℕ) (cut : Bool) (ps : List Text) → eqb b 47 ≡ cut → 0 < length ps → All (λ part. All IsPrintable part) (cond cut ([] ∷ ps) (onto_first b ps)) → IsPrintable b × All (λ part. All IsPrintable part) ps
first_byte b cut [] e some h = absurd (omega arith)
first_byte b true (p ∷ ps) e some h = (subst IsPrintable (sym ((Decides-eqb b 47).0 e)) (omega arith, λ e. absurd (omega (arith, e))), All-tail (λ part. All IsPrintable part) [] (p ∷ ps) h)
first_byte b false (p ∷ ps) e some h =
    let head = All-head (λ part. All IsPrintable part) (b ∷ p) ps h in
    (All-head IsPrintable b p head, All-cons (λ part. All IsPrintable part) p ps (All-tail IsPrintable b p head) (All-tail (λ part. All IsPrintable part) (b ∷ p) ps h))

pub whole_text : (text : Text) → All (λ part. All IsPrintable part) (parts text) → All IsPrintable text
whole_text [] h = All-nil IsPrintable
whole_text (b ∷ text) h =
    let here = first_byte b (eqb b 47) (parts text) refl (parts_some text) h in
    All-cons IsPrintable b text here.0 (whole_text text here.1)

pub clean_dir : (text : Text) → IsDirPath text → All IsPrintable text
clean_dir text dir = whole_text text (λ k d lt. (dir.path.each k d lt).printable)

pub lacks_control : (c : ℕ) (text : Text) → c < 32 → All IsPrintable text → Lacks c text
lacks_control c text low clean = λ k d lt same. (let printable = clean k d lt in absurd (omega (arith, same, printable.0)))

-- two cuts of one text at its first such byte are one
pub same_cut : (c : ℕ) (x u y v : Text) → Lacks c x → Lacks c u → x ++ c ∷ y ≡ u ++ c ∷ v → (x ≡ u) × (y ≡ v)
same_cut c [] [] y v h k e = (refl, cc)
same_cut c [] (d ∷ u) y v h k e = (let same : c ≡ d = cc in absurd (All-head (λ b. b ≢ c) d u k (sym same)))
same_cut c (b ∷ x) [] y v h k e = (let same : b ≡ c = cc in absurd (All-head (λ b. b ≢ c) b x h same))
same_cut c (b ∷ x) (d ∷ u) y v h k e =
    let head : b ≡ d = cc in
    let tail : x ++ c ∷ y ≡ u ++ c ∷ v = cc in
    let rest = same_cut c x u y v (All-tail (λ b. b ≢ c) b x h) (All-tail (λ b. b ≢ c) d u k) tail in
    (λ i. head i ∷ rest.0 i, rest.1)

-- a text without the byte has no cut there
pub no_cut : (c : ℕ) (text u v : Text) → Lacks c text → text ≢ u ++ c ∷ v
no_cut c [] [] v h e = cc
no_cut c [] (d ∷ u) v h e = cc
no_cut c (b ∷ text) [] v h e = (let same : b ≡ c = cc in All-head (λ b. b ≢ c) b text h same)
no_cut c (b ∷ text) (d ∷ u) v h e = (let tail : text ≡ u ++ c ∷ v = cc in no_cut c text u v (All-tail (λ b. b ≢ c) b text h) tail)
