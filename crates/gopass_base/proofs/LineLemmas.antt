-- Cutting at a byte, and the lines of a text.
use Rattle.std.proofs.Common.{◌≡◌, ◌≢◌, ℕ, zero, suc, ◌+◌, ◌<◌, List, [], ◌∷◌, ◌++◌, length, get_or, take, drop, All, cond, eqb, true, false, refl, ap, sym, ◌∙◌, subst, arith, eq-eqb, ne_eqb, length-append, length-take, take-append-drop, inl, inr}
use Rattle.std.specs.Prelude.{Option, Some, None}
use Rattle.std.specs.List.{onto_first}
use Rattle.std.proofs.lemmas.List.{at_drop_more, get_or-take}
use Rattle.std.proofs.lemmas.List.Splits.{slice_split-cons_yes, slice_split-cons_no, slice_split_at}
use Rattle.std.proofs.lemmas.Bool.Decides.{eqb_tells}
use Rattle.gopass_base.specs.Text.{Text}
use Rattle.gopass_base.specs.Lines.{IsCut, cut_at, with_first, pieces_of}

cut_before : (c : ℕ) (bs : List ℕ) (i : ℕ) → i < length bs → get_or bs i 0 ≡ c → ((k : ℕ) → k < i → get_or bs k 0 ≢ c) → cut_at c bs ≡ Some (take i bs, drop (suc i) bs)
cut_before c [] i h e f = absurd (omega arith)
cut_before c (b ∷ bs) zero h e f = ap (λ t. cond t (Some ([], bs)) (with_first b (cut_at c bs))) (eq-eqb b c e)
cut_before c (b ∷ bs) (suc i) h e f =
    ap (λ t. cond t (Some ([], bs)) (with_first b (cut_at c bs))) (ne_eqb b c (f 0 (omega arith)))
    ∙ ap (with_first b) (cut_before c bs i (omega arith) e (λ k l. f (suc k) (omega arith)))

pub cut_by : (c : ℕ) (bs : List ℕ) (i : ℕ) → i < length bs → get_or bs i 0 ≡ c → ((k : ℕ) → k < i → get_or bs k 0 ≢ c) → cut_at c bs ≡ Some (take i bs, drop (i + 1) bs)
cut_by c bs i h e f = cut_before c bs i h e f ∙ ap (λ n. Some (take i bs, drop n bs)) {x = suc i} {y = i + 1} (omega arith)

-- the first such byte is where a text is cut
pub cut_there : (c : ℕ) (text : Text) (at : ℕ) → at < length text → get_or text at 0 ≡ c → ((k d : ℕ) → k < at → get_or text k d ≢ c) → IsCut c text (take at text) (drop (at + 1) text)
cut_there c text at inside here before = (
  sym (take-append-drop at text) ∙ (ap (λ t. take at text ++ t) (at_drop_more (λ (t : Text). t) text at 0 inside) ∙ ap (λ b. take at text ++ b ∷ drop (at + 1) text) here),
  λ k d lt same. (let low : k < at = omega (arith, lt, length-take at text) in before k d low (sym (get_or-take at text k d low) ∙ same)),
)

abbrev pub pair : List ℕ → List ℕ → Option (List ℕ × List ℕ)
pair x y = Some (x, y)

pub both : (a b x y : List ℕ) → pair a b ≡ pair x y → (a ≡ x) × (b ≡ y)
both a b x y e = let p : ◌≡◌ {A = List ℕ × List ℕ} (a, b) (x, y) = cc in (ap (λ (q : List ℕ × List ℕ). q.0) p, ap (λ (q : List ℕ × List ℕ). q.1) p)

pub cut_none : (c : ℕ) (bs : List ℕ) → ((k : ℕ) → k < length bs → get_or bs k 0 ≢ c) → cut_at c bs ≡ None
cut_none c [] f = refl
cut_none c (b ∷ bs) f =
    ap (λ t. cond t (Some ([], bs)) (with_first b (cut_at c bs))) (ne_eqb b c (f 0 (omega arith)))
    ∙ ap (with_first b) (cut_none c bs (λ k l. f (suc k) (omega arith)))

-- what a cut says
pub cut_is : (c : ℕ) (bs x y : List ℕ) → cut_at c bs ≡ Some (x, y) → bs ≡ x ++ c ∷ y
cut_is c [] x y e = cc
cut_is c (b ∷ bs) x y e = elim (eqb_tells b c) [
  | inl (t, same) ↦ at_once same (sym (ap (λ v. cond v (Some ([], bs)) (with_first b (cut_at c bs))) t) ∙ e)
  | inr (t, other) ↦ later (cut_is c bs) (cut_at c bs) refl (sym (ap (λ v. cond v (Some ([], bs)) (with_first b (cut_at c bs))) t) ∙ e)
]
  where
    at_once : b ≡ c → pair [] bs ≡ pair x y → b ∷ bs ≡ x ++ c ∷ y
    at_once same e = (let (xs, ys) = both [] bs x y e in subst (λ t. b ∷ bs ≡ t ++ c ∷ y) xs (cc))

    later : ((x y : List ℕ) → cut_at c bs ≡ Some (x, y) → bs ≡ x ++ c ∷ y) → (r : Option (List ℕ × List ℕ)) → cut_at c bs ≡ r → with_first b r ≡ Some (x, y) → b ∷ bs ≡ x ++ c ∷ y
    later ih None was e = cc
    later ih (Some cut) was e = (let (front, rest) = both (b ∷ cut.0) cut.1 x y e in
        subst (λ t. b ∷ bs ≡ t ++ c ∷ y) front (ap (λ t. b ∷ t) (ih cut.0 cut.1 was ∙ ap (λ t. cut.0 ++ c ∷ t) rest)))

-- the pieces of a text, by its first cut
pub pieces_cut : (bs x y : List ℕ) → cut_at 10 bs ≡ Some (x, y) → pieces_of bs ≡ x ∷ pieces_of y
pieces_cut [] x y e = cc
pieces_cut (b ∷ bs) x y e = elim (eqb_tells b 10) [
  | inl (t, same) ↦ at_once t (sym (ap (λ v. cond v (Some ([], bs)) (with_first b (cut_at 10 bs))) t) ∙ e)
  | inr (t, other) ↦ later (pieces_cut bs) t (cut_at 10 bs) refl (sym (ap (λ v. cond v (Some ([], bs)) (with_first b (cut_at 10 bs))) t) ∙ e)
]
  where
    at_once : eqb b 10 ≡ true → pair [] bs ≡ pair x y → pieces_of (b ∷ bs) ≡ x ∷ pieces_of y
    at_once t e = (let (xs, ys) = both [] bs x y e in slice_split-cons_yes (λ v. eqb v 10) b bs t ∙ (ap (λ v. v ∷ pieces_of bs) xs ∙ ap (λ v. x ∷ pieces_of v) ys))

    later : ((x y : List ℕ) → cut_at 10 bs ≡ Some (x, y) → pieces_of bs ≡ x ∷ pieces_of y) → eqb b 10 ≡ false → (r : Option (List ℕ × List ℕ)) → cut_at 10 bs ≡ r → with_first b r ≡ Some (x, y) → pieces_of (b ∷ bs) ≡ x ∷ pieces_of y
    later ih t None was e = cc
    later ih t (Some cut) was e = (let (front, rest) = both (b ∷ cut.0) cut.1 x y e in
        slice_split-cons_no (λ v. eqb v 10) b bs t ∙ (ap (onto_first b) (ih cut.0 cut.1 was) ∙ (ap (λ v. v ∷ pieces_of cut.1) front ∙ ap (λ v. x ∷ pieces_of v) rest)))

pub pieces_end : (bs : List ℕ) → cut_at 10 bs ≡ None → pieces_of bs ≡ bs ∷ []
pieces_end [] e = refl
pieces_end (b ∷ bs) e = elim (eqb_tells b 10) [
  | inl (t, same) ↦ (let no : pair [] bs ≡ None = sym (ap (λ v. cond v (Some ([], bs)) (with_first b (cut_at 10 bs))) t) ∙ e in cc)
  | inr (t, other) ↦ later (pieces_end bs) t (cut_at 10 bs) refl (sym (ap (λ v. cond v (Some ([], bs)) (with_first b (cut_at 10 bs))) t) ∙ e)
]
  where
    later : (cut_at 10 bs ≡ None → pieces_of bs ≡ bs ∷ []) → eqb b 10 ≡ false → (r : Option (List ℕ × List ℕ)) → cut_at 10 bs ≡ r → with_first b r ≡ None → pieces_of (b ∷ bs) ≡ (b ∷ bs) ∷ []
    later ih t None was e = slice_split-cons_no (λ v. eqb v 10) b bs t ∙ ap (onto_first b) (ih was)
    later ih t (Some cut) was e = cc

-- no byte is an LF
abbrev pub IsOneLine : List ℕ → Type 0
IsOneLine line = All (λ b. eqb b 10 ≡ false) line

-- the pieces of a line and of what is behind its LF
pub line_first : (line rest : List ℕ) → IsOneLine line → pieces_of (line ++ 10 ∷ rest) ≡ line ∷ pieces_of rest
line_first line rest one = slice_split_at (λ b. eqb b 10) line 10 rest one refl

-- one turn of a loop over the lines: what is behind a cut is shorter
pub cut_shorter : (c : ℕ) (bs x y : List ℕ) → cut_at c bs ≡ Some (x, y) → length y < length bs
cut_shorter c bs x y e = omega (arith, ap length (cut_is c bs x y e), length-append x (c ∷ y))
