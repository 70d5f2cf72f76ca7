-- A text is a folder's exactly where none of its parts fails.
use Rattle.std.proofs.Common.{◌≡◌, ℕ, ◌≤◌, false, [], ◌∷◌, length, refl, arith}
use Rattle.std.specs.Prelude.{Option, Some, None, MatchOption}
use Rattle.std.proofs.lemmas.List.Elements.{All-nil, All-from_get_or}
use Rattle.gopass_base.specs.Text.{Text}
use Rattle.gopass_base.specs.Parts.{parts, IsSealedName}
use Rattle.mount_table.specs.Names.{IsNamePart}
use Rattle.mount_table.specs.NameFaults.{is_folder, part_at, AreGood, IsFault}
use Rattle.mount_table.specs.Folders.{IsFolder, without_slash}
use Rattle.mount_table.specs.declared.name.BadName.{BadName}
use Rattle.mount_table.specs.declared.name.NameKind.TheVariants.{Empty}
use Rattle.mount_table.proofs.NameLemmas.{good_no_fault, at_most}

pub root_folder : IsFolder []
root_folder = record {
  short = omega arith;
  few = omega arith;
  each = All-nil IsNamePart;
  above = All-nil (λ part. ¬ IsSealedName part);
}

pub folder_of : (text : Text) → length text ≤ 400 → AreGood false (parts text) → IsFolder text
folder_of [] short good = root_folder
folder_of (b ∷ text) short good = record {
  short = short;
  few = at_most (length (parts (b ∷ text))) (λ lt. (good 16 lt).few);
  each = All-from_get_or IsNamePart (parts (b ∷ text)) [] (λ k lt. (good k lt).named);
  above = All-from_get_or (λ part. ¬ IsSealedName part) (parts (b ∷ text)) [] (λ k lt. (good k lt).above refl);
}

pub good_of_folder : (b : ℕ) (text : Text) → IsFolder (b ∷ text) → AreGood false (parts (b ∷ text))
good_of_folder b text folder k lt = record {
  few = (let few = folder.few in omega arith);
  named = folder.each k [] lt;
  above = λ _. folder.above k [] lt;
}

pub fault_no_folder : (text : Text) (bad : BadName) → 1 ≤ length text → IsFault false text bad → IsFolder text → ⊥
fault_no_folder [] bad some fault folder = absurd (omega arith)
fault_no_folder (b ∷ text) bad some fault folder =
    let first = fault.first folder.short in
    good_no_fault first.number (is_folder false (parts (b ∷ text)) first.number) (part_at (parts (b ∷ text)) first.number) bad.kind (good_of_folder b text folder first.number first.inside) first.fails

pub folder_answer : (r : Option BadName) (text : Text) → 1 ≤ length text → MatchOption r ((length text ≤ 400) × AreGood false (parts text)) (IsFault false text)
    → MatchOption r (IsFolder text) (λ bad. (1 ≤ length text) × IsFault false text bad)
folder_answer None text some h = folder_of text h.0 h.1
folder_answer (Some bad) text some h = (some, h)

-- a text without bytes fails at its one part, which is empty
pub empty_fault : (text : Text) → length text ≡ 0 → IsFault false text (record { at = 0; kind = Empty })
empty_fault (b ∷ text) none = absurd (omega arith)
empty_fault [] none = record {
  long = λ long. absurd (omega arith);
  first = λ _. record {
    number = 0;
    inside = omega arith;
    fails = (omega arith, refl);
    before = λ k lt. absurd (omega arith);
    place = refl;
  };
}

-- what is left of a text without bytes has none
pub slash_needs_byte : (text : Text) → 1 ≤ length (without_slash text) → 1 ≤ length text
slash_needs_byte [] h = h
slash_needs_byte (b ∷ text) h = omega arith
