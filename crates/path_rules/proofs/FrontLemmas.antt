-- The first parts of a name are a folder that holds it, and no other folder with as many parts does.
use Rattle.std.proofs.Common.{◌≡◌, inl, inr, ℕ, zero, suc, ◌+◌, ◌-◌, ◌<◌, ◌≤◌, List, [], ◌∷◌, ◌++◌, length, take, drop, eqb, true, false, cond, refl, ap, sym, ◌∙◌, arith, length-append, length-take, length-drop}
use Rattle.std.specs.Prelude.{All}
use Rattle.std.specs.List.{join_with_byte, onto_first}
use Rattle.std.proofs.lemmas.List.{take_at, take-append-drop}
use Rattle.std.proofs.lemmas.List.Elements.{All-cons, All-head, All-tail, All-take}
use Rattle.std.proofs.lemmas.List.Splits.{join_with_byte-slice_split, slice_split_none, slice_split_at}
use Rattle.gopass_base.specs.Text.{Text}
use Rattle.gopass_base.specs.Parts.{parts}
use Rattle.mount_table.specs.Names.{IsName, IsNamePart}
use Rattle.mount_table.specs.NameFaults.{span, start_of}
use Rattle.mount_table.specs.Prefixes.{folder_parts, Holds}
use Rattle.mount_table.proofs.FolderLemmas.{joined}
use Rattle.mount_table.proofs.TableLemmas.{sides}
use Rattle.path_rules.specs.Governing.{front}

-- ---- parts that are joined are cut again

abbrev IsWhole : Text → Type 0
IsWhole part = All (λ b. eqb b 47 ≡ false) part

none_whole : All IsWhole []
none_whole = λ k d lt. absurd (omega arith)

empty_whole : IsWhole []
empty_whole = λ k d lt. absurd (omega arith)

whole_onto : (b : ℕ) (ps : List Text) → eqb b 47 ≡ false → All IsWhole ps → All IsWhole (onto_first b ps)
whole_onto b [] plain h = All-cons IsWhole (b ∷ []) [] (All-cons (λ b. eqb b 47 ≡ false) b [] plain empty_whole) none_whole
whole_onto b (p ∷ ps) plain h = All-cons IsWhole (b ∷ p) ps (All-cons (λ b. eqb b 47 ≡ false) b p plain (All-head IsWhole p ps h)) (All-tail IsWhole p ps h)

each_whole : (text : Text) → All IsWhole (parts text)
each_whole [] = All-cons IsWhole [] [] empty_whole none_whole
each_whole (b ∷ text) = elim (eqb b 47) as (λ t. eqb b 47 ≡ t → All IsWhole (cond t ([] ∷ parts text) (onto_first b (parts text)))) [
  | true ↦ λ e. All-cons IsWhole [] (parts text) empty_whole (each_whole text)
  | false ↦ λ e. whole_onto b (parts text) e (each_whole text)
] refl

cut_again : (ps : List Text) → 1 ≤ length ps → All IsWhole ps → parts (join_with_byte 47 ps) ≡ ps
cut_again [] some h = absurd (omega arith)
cut_again (p ∷ []) some h = slice_split_none (λ b. eqb b 47) p (All-head IsWhole p [] h)
cut_again (p ∷ q ∷ ps) some h = slice_split_at (λ b. eqb b 47) p 47 (join_with_byte 47 (q ∷ ps)) (All-head IsWhole p (q ∷ ps) h) refl ∙ ap (λ l. p ∷ l) (cut_again (q ∷ ps) (omega arith) (All-tail IsWhole p (q ∷ ps) h))

-- ---- the parts of a front

not_empty : (text : Text) (ps : List Text) → parts text ≡ ps → All IsNamePart ps → 1 ≤ length ps → folder_parts text ≡ ps
not_empty [] [] e each some = absurd (omega arith)
not_empty [] (p ∷ ps) e each some =
    let empty : [] ≡ p = cc in
    let part = All-head IsNamePart p ps each in
    absurd (omega (arith, part.some, ap length empty))
not_empty (b ∷ text) ps e each some = e

pub front_parts : (name : Text) (n : ℕ) → IsName name → n < length (parts name) → folder_parts (front n name) ≡ take n (parts name)
front_parts name zero good lt = refl
front_parts name (suc n) good lt =
    let some : 1 ≤ length (take (suc n) (parts name)) = omega (arith, length-take (suc n) (parts name), lt) in
    not_empty (front (suc n) name) (take (suc n) (parts name)) (cut_again (take (suc n) (parts name)) some (All-take IsWhole (suc n) (parts name) (each_whole name)))
    (All-take IsNamePart (suc n) (parts name) good.each) some

pub front_depth : (name : Text) (n : ℕ) → IsName name → n < length (parts name) → length (folder_parts (front n name)) ≡ n
front_depth name n good lt = omega (arith, ap length (front_parts name n good lt), length-take n (parts name), lt)

pub front_holds : (name : Text) (n : ℕ) → IsName name → n < length (parts name) → Holds (front n name) name
front_holds name n good lt = by (drop n (parts name)) refl
  where
    by : (left : List Text) → drop n (parts name) ≡ left → Holds (front n name) name
    by [] e = absurd (omega (arith, ap length e, length-drop n (parts name), lt))
    by (next ∷ rest) e = (next, rest, sym (take-append-drop n (parts name)) ∙ (λ i. sym (front_parts name n good lt) i ++ e i))

pub one_front : (folder name : Text) → Holds folder name → folder ≡ front (length (folder_parts folder)) name
one_front [] name holds = refl
one_front (b ∷ folder) name (next, rest, whole) =
    sym (join_with_byte-slice_split 47 (b ∷ folder))
    ∙ ap (join_with_byte 47) (sym (ap (take (length (parts (b ∷ folder)))) whole ∙ take_at (parts (b ∷ folder)) (next ∷ rest) (length (parts (b ∷ folder))) refl))

pub holds_less : (folder name : Text) → Holds folder name → length (folder_parts folder) < length (parts name)
holds_less folder name (next, rest, whole) = omega (arith, ap length whole, length-append (folder_parts folder) (next ∷ rest))

-- ---- the bytes of a front

joined_length : (ps : List Text) → 1 ≤ length ps → length (join_with_byte 47 ps) + 1 ≡ span ps
joined_length [] some = absurd (omega arith)
joined_length (p ∷ []) some = omega arith
joined_length (p ∷ q ∷ ps) some = omega (arith, joined_length (q ∷ ps) (omega arith), length-append p (47 ∷ join_with_byte 47 (q ∷ ps)))

pub front_bytes : (name : Text) (n : ℕ) → n < length (parts name) → take (start_of (parts name) n - 1) name ≡ front n name
front_bytes name zero lt = refl
front_bytes name (suc n) lt = by (drop (suc n) (parts name)) refl
  where
    some : 1 ≤ length (take (suc n) (parts name))
    some = omega (arith, length-take (suc n) (parts name), lt)

    by : (left : List Text) → drop (suc n) (parts name) ≡ left → take (start_of (parts name) (suc n) - 1) name ≡ front (suc n) name
    by [] e = absurd (omega (arith, ap length e, length-drop (suc n) (parts name), lt))
    by (next ∷ rest) e =
        let whole : name ≡ front (suc n) name ++ 47 ∷ join_with_byte 47 (next ∷ rest) =
        sym (join_with_byte-slice_split 47 name) ∙ (ap (join_with_byte 47) (sym (take-append-drop (suc n) (parts name)) ∙ ap (λ l. take (suc n) (parts name) ++ l) e)
        ∙ joined (take (suc n) (parts name)) next rest some) in
        ap (take (start_of (parts name) (suc n) - 1)) whole
        ∙ take_at (front (suc n) name) (47 ∷ join_with_byte 47 (next ∷ rest)) (start_of (parts name) (suc n) - 1) (omega (arith, joined_length (take (suc n) (parts name)) some))

-- ---- where parts begin

starts_rise : (ps : List Text) (i k : ℕ) → i < k → k ≤ length ps → start_of ps i < start_of ps k
starts_rise [] i k lt le = absurd (omega arith)
starts_rise (p ∷ ps) i zero lt le = absurd (omega arith)
starts_rise (p ∷ ps) zero (suc k) lt le = omega arith
starts_rise (p ∷ ps) (suc i) (suc k) lt le = omega (arith, starts_rise ps i k (omega arith) (omega arith))

pub start_before : (ps : List Text) (i k : ℕ) → i ≤ length ps → start_of ps i < start_of ps k → i < k
start_before ps i k inside lt = elim (sides i k) [
  | inl below ↦ below
  | inr (inl same) ↦ absurd (omega (arith, lt, ap (start_of ps) same))
  | inr (inr behind) ↦ absurd (omega (arith, lt, starts_rise ps k i behind inside))
]

pub start_from : (ps : List Text) (i k : ℕ) → i ≤ length ps → start_of ps i ≤ start_of ps k → k ≤ length ps → i ≤ k
start_from ps i k inside le inside' = elim (sides i k) [
  | inl below ↦ omega arith
  | inr (inl same) ↦ omega arith
  | inr (inr behind) ↦ absurd (omega (arith, le, starts_rise ps k i behind inside))
]
