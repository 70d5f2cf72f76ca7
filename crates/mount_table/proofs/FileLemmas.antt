-- A good name in a directory gives the path of a file.
use Rattle.std.proofs.Common.{◌≡◌, ℕ, ◌<◌, List, [], ◌∷◌, ◌++◌, length, codes, cond, eqb, Bool, true, false, All, refl, ap, sym, ◌∙◌, subst, arith, length-append}
use Rattle.std.specs.List.{onto_first}
use Rattle.std.proofs.lemmas.List.Elements.{All-cons, All-nil, All-head, All-tail, All-append}
use Rattle.gopass_base.specs.Text.{Text, IsPrintable}
use Rattle.gopass_base.specs.Parts.{parts, IsHidden}
use Rattle.gopass_base.specs.Paths.{IsPathPart, IsFilePath, IsDirPath, file_of}
use Rattle.gopass_base.proofs.JoinLemmas.{path_in_good, printable_text}
use Rattle.mount_table.specs.Names.{IsNamePart, IsName}
use Rattle.mount_table.proofs.PartLemmas.{parts_fill}

-- the parts with the ending of a secret's file behind the last one
abbrev pub with_ending : List Text → List Text
with_ending [] = codes ".gpg" ∷ []
with_ending (p ∷ []) = (p ++ codes ".gpg") ∷ []
with_ending (p ∷ q ∷ ps) = p ∷ with_ending (q ∷ ps)

ending_more : (b : ℕ) (cut : Bool) (ps : List Text) → 0 < length ps → cond cut ([] ∷ with_ending ps) (onto_first b (with_ending ps)) ≡ with_ending (cond cut ([] ∷ ps) (onto_first b ps))
ending_more b cut [] h = absurd (omega arith)
ending_more b true (p ∷ []) h = refl
ending_more b false (p ∷ []) h = refl
ending_more b true (p ∷ q ∷ ps) h = refl
ending_more b false (p ∷ q ∷ ps) h = refl

pub parts_with_ending : (text : Text) → parts (text ++ codes ".gpg") ≡ with_ending (parts text)
parts_with_ending [] = refl
parts_with_ending (b ∷ text) = ap (λ (ps : List Text). cond (eqb b 47) ([] ∷ ps) (onto_first b ps)) (parts_with_ending text) ∙ ending_more b (eqb b 47) (parts text) (parts_fill text).0

length-with_ending : (ps : List Text) → 0 < length ps → length (with_ending ps) ≡ length ps
length-with_ending [] h = absurd (omega arith)
length-with_ending (p ∷ []) h = refl
length-with_ending (p ∷ q ∷ ps) h = omega (arith, length-with_ending (q ∷ ps) (omega arith))

name_part : (part : Text) → IsNamePart part → IsPathPart part
name_part part good = let short = good.short in record {
  some = good.some;
  short = omega arith;
  no_dot = λ e. good.plain (subst IsHidden (sym e) refl);
  no_dots = λ e. good.plain (subst IsHidden (sym e) refl);
  printable = good.printable;
}

sealed_part : (part : Text) → IsNamePart part → IsPathPart (part ++ codes ".gpg")
sealed_part part good =
    let short = good.short in
    let long = length-append part (codes ".gpg") in
    record {
      some = omega arith;
      short = omega arith;
      no_dot = λ e. absurd (omega (arith, ap length e));
      no_dots = λ e. absurd (omega (arith, ap length e));
      printable = All-append IsPrintable part (codes ".gpg") good.printable (printable_text (codes ".gpg") refl);
    }

sealed_parts : (ps : List Text) → 0 < length ps → All IsNamePart ps → All IsPathPart (with_ending ps)
sealed_parts [] h each = absurd (omega arith)
sealed_parts (p ∷ []) h each = All-cons IsPathPart (p ++ codes ".gpg") [] (sealed_part p (All-head IsNamePart p [] each)) (All-nil IsPathPart)
sealed_parts (p ∷ q ∷ ps) h each =
    All-cons IsPathPart p (with_ending (q ∷ ps)) (name_part p (All-head IsNamePart p (q ∷ ps) each)) (sealed_parts (q ∷ ps) (omega arith) (All-tail IsNamePart p (q ∷ ps) each))

pub file_good : (dir name : Text) → IsDirPath dir → IsName name → IsFilePath (file_of dir name)
file_good dir name dir_good good =
    let short = good.short in
    let few = good.few in
    let cut = parts_with_ending name in
    let some = (parts_fill name).0 in
    path_in_good dir (name ++ codes ".gpg") dir_good
    (omega (arith, length-append name (codes ".gpg")))
    (omega (arith, ap length cut, length-with_ending (parts name) some))
    (subst (All IsPathPart) (sym cut) (sealed_parts (parts name) some good.each))
