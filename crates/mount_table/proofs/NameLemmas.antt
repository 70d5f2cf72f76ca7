-- A text is a name exactly where none of its parts fails.
use Rattle.std.proofs.Common.{◌≡◌, ℕ, ◌+◌, ◌-◌, ◌<◌, ◌≤◌, Bool, true, List, [], length, get_or, subst, sym, arith, not, ◌&&◌, eqb, length-take}
use Rattle.std.proofs.lemmas.Bool.Decides.{nat_tests}
use Rattle.std.proofs.lemmas.List.{get_or-take}
use Rattle.std.proofs.lemmas.List.Elements.{All-from_get_or}
use Rattle.gopass_base.specs.Parts.{parts, IsSealedName}
use Rattle.mount_table.specs.Names.{folders, IsName, IsNamePart}
use Rattle.mount_table.specs.NameFaults.{is_folder, part_at, Fails, IsGood, AreGood, IsFault}
use Rattle.mount_table.specs.declared.name.NameKind.{NameKind}
use Rattle.mount_table.specs.declared.name.NameKind.TheVariants.{Empty, Dots, Control, LongPart, LongName, ManyParts, FolderGpg}
use Rattle.mount_table.specs.declared.name.BadName.{BadName}

pub good_no_fault : (number : ℕ) (folder : Bool) (part : List ℕ) (kind : NameKind) → IsGood number folder part → Fails number folder part kind → ⊥
good_no_fault number folder part ManyParts good fails = absurd (omega (arith, good.few))
good_no_fault number folder part Empty good fails = absurd (omega (arith, good.named.some, fails.1))
good_no_fault number folder part Dots good fails = good.named.plain fails.1
good_no_fault number folder part Control good fails = fails.3 good.named.printable
good_no_fault number folder part LongPart good fails = absurd (omega (arith, good.named.short, fails.3))
good_no_fault number folder part FolderGpg good fails = good.above fails.2 fails.3
good_no_fault number folder part LongName good fails = fails

above_is : (k n : ℕ) → k < n - 1 → not (true && eqb (k + 1) n) ≡ true
above_is k n lt = grind (arith, nat_tests)

is_above : (k n : ℕ) → not (true && eqb (k + 1) n) ≡ true → k < n → k < n - 1
is_above k n is lt = grind (arith, nat_tests)

pub at_most : (n : ℕ) → (16 < n → 16 < 16) → n ≤ 16
at_most n h = grind arith

pub name_of : (text : List ℕ) → length text ≤ 400 → AreGood true (parts text) → IsName text
name_of text short good = record {
  short = short;
  few = at_most (length (parts text)) (λ lt. (good 16 lt).few);
  each = All-from_get_or IsNamePart (parts text) [] (λ k lt. (good k lt).named);
  above = All-from_get_or (λ part. ¬ IsSealedName part) (folders (parts text)) [] (λ k lt. last_not text good k (omega (arith, length-take (length (parts text) - 1) (parts text))));
}
  where
    last_not : (text : List ℕ) → AreGood true (parts text) → (k : ℕ) → k < length (parts text) - 1 → ¬ IsSealedName (get_or (folders (parts text)) k [])
    last_not text good k lt =
        subst (λ (p : List ℕ). ¬ IsSealedName p) (sym (get_or-take (length (parts text) - 1) (parts text) k [] lt)) ((good k (omega arith)).above (above_is k (length (parts text)) lt))

pub good_of : (text : List ℕ) → IsName text → AreGood true (parts text)
good_of text name k lt = record {
  few = (let few = name.few in omega arith);
  named = name.each k [] lt;
  above = λ folder. (let lt' : k < length (parts text) - 1 = is_above k (length (parts text)) folder lt in
      subst (λ (p : List ℕ). ¬ IsSealedName p) (get_or-take (length (parts text) - 1) (parts text) k [] lt') (name.above k [] (omega (arith, length-take (length (parts text) - 1) (parts text)))));
}

pub fault_no_name : (text : List ℕ) (bad : BadName) → IsFault true text bad → IsName text → ⊥
fault_no_name text bad fault name =
    let first = fault.first name.short in
    good_no_fault first.number (is_folder true (parts text) first.number) (part_at (parts text) first.number) bad.kind (good_of text name first.number first.inside) first.fails
