-- What stands in a name behind a folder that holds it is a name.
use Rattle.std.proofs.Common.{◌≡◌, ◌≢◌, ℕ, ◌+◌, ◌<◌, ◌≤◌, true, not, ◌&&◌, eqb, List, [], ◌∷◌, ◌++◌, length, get_or, take, drop, refl, ap, sym, ◌∙◌, subst, arith, length-append, IsUtf8}
use Rattle.std.specs.Str.{IsCharBoundary}
use Rattle.std.proofs.lemmas.Str.{IsCharBoundary-start, IsCharBoundary-after_ascii}
use Rattle.std.proofs.lemmas.List.{take_at, drop_at, get_or_at, get_or-append-add, append_assoc}
use Rattle.std.proofs.lemmas.Bool.Decides.{nat_tests}
use Rattle.gopass_base.specs.Text.{Text}
use Rattle.gopass_base.specs.Parts.{parts}
use Rattle.mount_table.specs.Names.{IsName}
use Rattle.mount_table.specs.NameFaults.{span, is_folder, part_at, IsGood, IsGoodAt}
use Rattle.mount_table.specs.Prefixes.{Holds, rest_start}
use Rattle.mount_table.proofs.PartLemmas.{parts_fill}
use Rattle.gopass_base.proofs.JoinLemmas.{parts_join}
use Rattle.mount_table.proofs.NameLemmas.{name_of, good_of}
use Rattle.mount_table.proofs.FolderLemmas.{bytes_by_holds}

pub start_root : (folder name : Text) → length folder ≡ 0 → rest_start folder name ≡ 0
start_root [] name none = refl
start_root (b ∷ folder) name none = absurd (omega arith)

pub start_other : (folder name : Text) → length folder ≢ 0 → Holds folder name → rest_start folder name ≡ length folder + 1
start_other [] name some holds = absurd (some refl)
start_other (b ∷ folder) name some (next, rest, whole) =
    ap span (ap (take (length (parts (b ∷ folder)))) whole ∙ take_at (parts (b ∷ folder)) (next ∷ rest) (length (parts (b ∷ folder))) refl) ∙ (parts_fill (b ∷ folder)).1

-- the place is one where the text can be cut
pub record CanCut (name : Text) (at : ℕ) : Type 0 where
  pub inside : at ≤ length name
  pub boundary : IsCharBoundary name at

pub can_cut : (folder name : Text) → IsUtf8 name → Holds folder name → CanCut name (rest_start folder name)
can_cut [] name utf8 holds = record { inside = omega arith; boundary = IsCharBoundary-start name utf8 }
can_cut (b ∷ folder) name utf8 holds =
    let (more, whole) = bytes_by_holds b folder name holds in
    let slash : get_or name (length (b ∷ folder)) 0 ≡ 47 = ap (λ t. get_or t (length (b ∷ folder)) 0) whole ∙ get_or_at (b ∷ folder) 47 more 0 (length (b ∷ folder)) refl in
    let inside : length (b ∷ folder) < length name = omega (arith, ap length whole, length-append (b ∷ folder) (47 ∷ more)) in
    subst (CanCut name) (sym (start_other (b ∷ folder) name (λ e. absurd (omega (arith, e))) holds))
    (record { inside = omega arith; boundary = IsCharBoundary-after_ascii name (length (b ∷ folder)) utf8 inside (omega (arith, slash)) })

same_last : (a b k n t : ℕ) → t ≡ a + n → eqb (a + k + 1) t ≡ eqb (k + 1) n
same_last a b k n t e = grind (arith, nat_tests)

good_below : (ps qs : List Text) (k : ℕ) → IsGoodAt true (ps ++ qs) (length ps + k) → IsGoodAt true qs k
good_below ps qs k good =
    let few = good.few in
    let same : part_at (ps ++ qs) (length ps + k) ≡ part_at qs k = get_or-append-add ps qs k [] in
    let folder : is_folder true (ps ++ qs) (length ps + k) ≡ is_folder true qs k = ap (λ b. not (true && b)) (same_last (length ps) 0 k (length qs) (length (ps ++ qs)) (length-append ps qs)) in
    subst (λ (p : Text). IsGood k (is_folder true qs k) p) same
    (subst (λ b. IsGood k b (part_at (ps ++ qs) (length ps + k))) folder (record { few = omega arith; named = good.named; above = good.above }))

pub rest_name : (folder name : Text) → IsName name → Holds folder name → IsName (drop (rest_start folder name) name)
rest_name [] name good holds = good
rest_name (b ∷ folder) name good holds =
    let (more, whole) = bytes_by_holds b folder name holds in
    let start : rest_start (b ∷ folder) name ≡ length (b ∷ folder) + 1 = start_other (b ∷ folder) name (λ e. absurd (omega (arith, e))) holds in
    let rest : drop (rest_start (b ∷ folder) name) name ≡ more = below more whole start in
    let short = good.short in
    subst IsName (sym rest) (name_of more (omega (arith, short, ap length whole, length-append (b ∷ folder) (47 ∷ more))) (each more (ap parts whole ∙ parts_join (b ∷ folder) more)))
  where
    below : (more : Text) → name ≡ (b ∷ folder) ++ 47 ∷ more → rest_start (b ∷ folder) name ≡ length (b ∷ folder) + 1 → drop (rest_start (b ∷ folder) name) name ≡ more
    below more whole start =
        ap (λ n. drop n name) start
        ∙ (ap (drop (length (b ∷ folder) + 1)) (whole ∙ sym (append_assoc (b ∷ folder) (47 ∷ []) more))
        ∙ drop_at ((b ∷ folder) ++ 47 ∷ []) more (length (b ∷ folder) + 1) (omega (arith, length-append (b ∷ folder) (47 ∷ []))))

    each : (more : Text) → parts name ≡ parts (b ∷ folder) ++ parts more → (k : ℕ) → k < length (parts more) → IsGoodAt true (parts more) k
    each more all k lt =
        good_below (parts (b ∷ folder)) (parts more) k
        (subst (λ (ps : List Text). IsGoodAt true ps (length (parts (b ∷ folder)) + k)) all
        (good_of name good (length (parts (b ∷ folder)) + k) (omega (arith, lt, ap length all, length-append (parts (b ∷ folder)) (parts more)))))
