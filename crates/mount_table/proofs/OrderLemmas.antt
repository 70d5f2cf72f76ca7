-- The order of aliases, by their bytes.
use Rattle.std.proofs.Common.{◌≡◌, ◌≢◌, inl, inr, ℕ, ◌+◌, ◌<◌, ◌≤◌, List, [], ◌∷◌, ◌++◌, length, refl, ap, sym, ◌∙◌, subst, arith, length-append}
use Rattle.std.specs.Ordering.{nat_cmp, ordering_then, ordering_reverse}
use Rattle.std.specs.declared.cmp.Ordering.{Ordering}
use Rattle.std.specs.declared.cmp.Ordering.TheVariants.{Less, Equal, Greater}
use Rattle.std.specs.Cmp.Lexicographic.{slice_cmp}
use Rattle.std.proofs.lemmas.Cmp.{nat_cmp_total, nat_list_cmp_total, tied_itself}
use Rattle.std.proofs.lemmas.Map.Lookups.{exact_bytes}
use Rattle.std.specs.List.{join_with_byte}
use Rattle.std.proofs.lemmas.List.Splits.{join_with_byte-slice_split}
use Rattle.std.proofs.lemmas.List.{append-nil}
use Rattle.gopass_base.specs.Text.{Text}
use Rattle.gopass_base.specs.Parts.{parts}
use Rattle.mount_table.specs.Prefixes.{folder_parts, IsPrefix}
use Rattle.mount_table.specs.Mounts.{IsBelow}
use Rattle.mount_table.proofs.PartLemmas.{parts_fill}
use Rattle.mount_table.proofs.PrefixLemmas.{by_bytes}

pub not_below_more : (a more : Text) → IsBelow (a ++ more) a → ⊥
not_below_more [] [] h = cc
not_below_more [] (c ∷ more) h = cc
not_below_more (b ∷ a) more h = not_below_more a more (sym (ap (λ o. ordering_then o (slice_cmp nat_cmp (a ++ more) a)) (tied_itself nat_cmp_total b)) ∙ h)

pub not_below_itself : (a : Text) → IsBelow a a → ⊥
not_below_itself a h = not_below_more a [] (subst (λ (t : Text). IsBelow t a) (sym (append-nil a)) h)

pub not_below_nothing : (a : Text) → IsBelow a [] → ⊥
not_below_nothing a h = not_below_more [] a h

pub below_through : (a b c : Text) → IsBelow a b → IsBelow b c → IsBelow a c
below_through a b c h k = nat_list_cmp_total.trans a b c h k

-- of two texts that differ, one is below the other
pub below_other : (a b : Text) → ¬ IsBelow a b → a ≢ b → IsBelow b a
below_other a b not other = by (slice_cmp nat_cmp a b) refl
  where
    by : (o : Ordering) → slice_cmp nat_cmp a b ≡ o → IsBelow b a
    by Less e = absurd (not e)
    by Equal e = absurd (other (exact_bytes a b e))
    by Greater e = nat_list_cmp_total.antisymm b a ∙ ap ordering_reverse e

-- of two beginnings of one list, the longer begins with the shorter
pub longer_begins : {X : Type 0} (xs ys us vs : List X) → xs ++ us ≡ ys ++ vs → length ys ≤ length xs → (zs : List X) × (xs ≡ ys ++ zs)
longer_begins xs [] us vs e le = (xs, refl)
longer_begins [] (y ∷ ys) us vs e le = absurd (omega arith)
longer_begins (x ∷ xs) (y ∷ ys) us vs e le =
    let head : x ≡ y = cc in
    let tail : xs ++ us ≡ ys ++ vs = cc in
    let (zs, more) = longer_begins xs ys us vs tail (omega arith) in
    (zs, λ i. head i ∷ more i)

begins_above : (a b : Text) (zs : List Text) → folder_parts a ≡ folder_parts b ++ zs → IsBelow a b → length (folder_parts b) < length (folder_parts a) → ⊥
begins_above a [] zs e below lt = not_below_nothing a below
begins_above [] (c ∷ b) zs e below lt = absurd (omega arith)
begins_above (d ∷ a) (c ∷ b) zs e below lt = elim (by_bytes (c ∷ b) (d ∷ a) zs e) [
  | inl same ↦ not_below_itself (c ∷ b) (subst (λ (t : Text). IsBelow t (c ∷ b)) same below)
  | inr (more, whole) ↦ not_below_more (c ∷ b) (47 ∷ more) (subst (λ (t : Text). IsBelow t (c ∷ b)) whole below)
]

at_most_by : (m n : ℕ) → (n < m → ⊥) → m ≤ n
at_most_by m n h = grind arith

-- of two folders that hold the same, the one with the greater text has as many parts or more
pub more_parts : (a b : Text) (ps : List Text) → IsPrefix (folder_parts a) ps → IsPrefix (folder_parts b) ps → IsBelow a b → length (folder_parts a) ≤ length (folder_parts b)
more_parts a b ps (ra, ea) (rb, eb) below =
    at_most_by (length (folder_parts a)) (length (folder_parts b))
    (λ lt. (let (zs, e) = longer_begins (folder_parts a) (folder_parts b) ra rb (sym ea ∙ eb) (omega arith) in begins_above a b zs e below lt))

-- folders that hold one name and have as many parts are one
pub one_alias : (a b : Text) (ps : List Text) → IsPrefix (folder_parts a) ps → IsPrefix (folder_parts b) ps → length (folder_parts a) ≡ length (folder_parts b) → a ≡ b
one_alias a b ps (ra, ea) (rb, eb) same = (let (zs, e) = longer_begins (folder_parts a) (folder_parts b) ra rb (sym ea ∙ eb) (omega arith) in equal a b zs e same)
  where
    none : (zs : List Text) (n : ℕ) → n ≡ length zs + n → zs ≡ []
    none [] n e = refl
    none (z ∷ zs) n e = absurd (omega (arith, e))

    equal : (a b : Text) (zs : List Text) → folder_parts a ≡ folder_parts b ++ zs → length (folder_parts a) ≡ length (folder_parts b) → a ≡ b
    equal [] [] zs e same = refl
    equal [] (c ∷ b) zs e same = absurd (omega (arith, same, (parts_fill (c ∷ b)).0))
    equal (d ∷ a) [] zs e same = absurd (omega (arith, same, (parts_fill (d ∷ a)).0))
    equal (d ∷ a) (c ∷ b) zs e same =
        let nothing : zs ≡ [] = none zs (length (parts (c ∷ b))) (omega (arith, same, ap length e, length-append (parts (c ∷ b)) zs)) in
        let parts_same : parts (d ∷ a) ≡ parts (c ∷ b) = e ∙ (ap (λ t. parts (c ∷ b) ++ t) nothing ∙ append-nil (parts (c ∷ b))) in
        sym (join_with_byte-slice_split 47 (d ∷ a)) ∙ (ap (join_with_byte 47) parts_same ∙ join_with_byte-slice_split 47 (c ∷ b))
