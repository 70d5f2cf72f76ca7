-- The parts of a text, and how long they are together.
use Rattle.std.proofs.Common.{◌≡◌, ℕ, ◌+◌, ◌-◌, ◌<◌, ◌&&◌, not, List, [], ◌∷◌, length, get_or, drop, zero, suc, cond, eqb, Bool, true, false, subst, refl, ap, sym, ◌∙◌, arith, length-drop}
use Rattle.std.specs.List.{onto_first}
use Rattle.std.proofs.lemmas.List.{at_drop_more, get_or_default}
use Rattle.gopass_base.specs.Parts.{parts}
use Rattle.std.proofs.lemmas.Bool.Decides.{nat_tests}
use Rattle.mount_table.specs.NameFaults.{span, start_of, is_folder, part_at, Fails, IsGood, IsGoodAt}
use Rattle.mount_table.specs.declared.name.NameKind.{NameKind}

span-onto_first : (b : ℕ) (texts : List (List ℕ)) → 0 < length texts → span (onto_first b texts) ≡ span texts + 1
span-onto_first b [] h = absurd (omega arith)
span-onto_first b (part ∷ texts) h = omega arith

longer : (b : ℕ) (texts : List (List ℕ)) → 0 < length (onto_first b texts)
longer b [] = omega arith
longer b (part ∷ texts) = omega arith

-- parts that together have n bytes, with one behind each
abbrev pub Fill : ℕ → List (List ℕ) → Type 0
Fill n texts = (0 < length texts) × (span texts ≡ n)

fill_more : (b n : ℕ) (cut : Bool) (texts : List (List ℕ)) → Fill n texts → Fill (n + 1) (cond cut ([] ∷ texts) (onto_first b texts))
fill_more b n true texts h = (omega arith, omega (arith, h.1))
fill_more b n false texts h = (longer b texts, omega (arith, span-onto_first b texts h.0, h.1))

pub parts_fill : (text : List ℕ) → Fill (length text + 1) (parts text)
parts_fill [] = (omega arith, omega arith)
parts_fill (b ∷ text) = subst (λ n. Fill n (parts (b ∷ text))) (omega arith) (fill_more b (length text + 1) (eqb b 47) (parts text) (parts_fill text))

pub start_more : (texts : List (List ℕ)) (k : ℕ) → k < length texts → start_of texts (suc k) ≡ start_of texts k + (length (get_or texts k []) + 1)
start_more [] k h = absurd (omega arith)
start_more (part ∷ texts) zero h = omega arith
start_more (part ∷ texts) (suc k) h = omega (arith, start_more texts k (omega arith))

none_left : (texts : List (List ℕ)) → span texts ≡ 0 → length texts ≡ 0
none_left [] h = refl
none_left (part ∷ texts) h = absurd (omega arith)

no_bytes : (texts : List (List ℕ)) → length texts ≡ 0 → span texts ≡ 0
no_bytes [] h = refl
no_bytes (part ∷ texts) h = absurd (omega arith)

same_test : (k n a t s l : ℕ) → (s ≡ 0 → l ≡ 0) → (l ≡ 0 → s ≡ 0) → l ≡ n - (k + 1) → k < n → a + 1 + s ≡ t + 1 → eqb (k + 1) n ≡ eqb a t
same_test k n a t s l none zero_then left inside placed = grind (arith, nat_tests)

-- one turn of a loop over the parts
pub record IsTurn (is_secret : Bool) (text part : List ℕ) (number at : ℕ) : Type 0 where
  pub inside : number < length (parts text)
  pub same : part ≡ part_at (parts text) number
  pub folder : is_folder is_secret (parts text) number ≡ not (is_secret && eqb (at + length part) (length text))
  pub next : at + (length part + 1) ≡ start_of (parts text) (number + 1)
  pub left : at + (length part + 1) + span (drop (number + 1) (parts text)) ≡ length text + 1

pub turn_of : (is_secret : Bool) (text part : List ℕ) (number at : ℕ) → (number < length (parts text)) × (part ≡ get_or (parts text) number part) → at ≡ start_of (parts text) number
    → at + span (drop number (parts text)) ≡ length text + 1 → IsTurn is_secret text part number at
turn_of is_secret text part number at here begun placed = record {
  inside = here.0;
  same = same;
  folder = ap (λ b. not (is_secret && b)) last;
  next = next;
  left = omega (arith, rest);
}
  where
    same : part ≡ part_at (parts text) number
    same = here.1 ∙ get_or_default (parts text) number part [] here.0

    rest : span (drop number (parts text)) ≡ length part + 1 + span (drop (number + 1) (parts text))
    rest = at_drop_more span (parts text) number part here.0 ∙ ap (λ p. length p + 1 + span (drop (number + 1) (parts text))) (sym here.1)

    next : at + (length part + 1) ≡ start_of (parts text) (number + 1)
    next =
        let step : start_of (parts text) (suc number) ≡ start_of (parts text) number + (length (part_at (parts text) number) + 1) = start_more (parts text) number here.0 in
        omega (arith, step, ap length same, ap (start_of (parts text)) {x = suc number} {y = number + 1} (omega arith))

    last : eqb (number + 1) (length (parts text)) ≡ eqb (at + length part) (length text)
    last =
        same_test number (length (parts text)) (at + length part) (length text) (span (drop (number + 1) (parts text))) (length (drop (number + 1) (parts text)))
        (none_left (drop (number + 1) (parts text))) (no_bytes (drop (number + 1) (parts text))) (length-drop (number + 1) (parts text)) here.0 (omega (arith, rest))

pub fails_at : (is_secret : Bool) (text part : List ℕ) (number at : ℕ) (folder : Bool) (kind : NameKind) → IsTurn is_secret text part number at
    → folder ≡ not (is_secret && eqb (at + length part) (length text)) → Fails number folder part kind → Fails number (is_folder is_secret (parts text) number) (part_at (parts text) number) kind
fails_at is_secret text part number at folder kind turn is fails =
    subst (λ (p : List ℕ). Fails number (is_folder is_secret (parts text) number) p kind) turn.same (subst (λ b. Fails number b part kind) (is ∙ sym turn.folder) fails)

pub good_at : (is_secret : Bool) (text part : List ℕ) (number at : ℕ) (folder : Bool) → IsTurn is_secret text part number at
    → folder ≡ not (is_secret && eqb (at + length part) (length text)) → IsGood number folder part → IsGoodAt is_secret (parts text) number
good_at is_secret text part number at folder turn is good =
    subst (λ (p : List ℕ). IsGood number (is_folder is_secret (parts text) number) p) turn.same (subst (λ b. IsGood number b part) (is ∙ sym turn.folder) good)
