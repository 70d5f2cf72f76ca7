-- What is joined with a slash: its parts, and the paths that it makes.
use Rattle.std.proofs.Common.{◌≡◌, ℕ, ◌<◌, ◌≤◌, List, [], ◌∷◌, ◌++◌, length, codes, cond, eqb, leb, Bool, true, false, not, ◌&&◌, All, refl, ap, sym, ◌∙◌, subst, arith, length-append}
use Rattle.std.specs.List.{onto_first, list_all}
use Rattle.std.proofs.lemmas.List.Elements.{All-nil, All-cons, All-append}
use Rattle.std.proofs.lemmas.Bool.Decides.{nat_tests}
use Rattle.gopass_base.specs.Text.{Text, IsPrintable}
use Rattle.gopass_base.specs.Parts.{parts}
use Rattle.gopass_base.specs.Paths.{IsPathPart, IsFilePath, IsDirPath, path_in, service_text}
use Rattle.gopass_base.specs.declared.service.ServiceFile.{ServiceFile}
use Rattle.gopass_base.specs.declared.service.ServiceFile.TheVariants.{Journal, Mounts, Pending}

some_more : (b : ℕ) (cut : Bool) (ps : List Text) → 0 < length ps → 0 < length (cond cut ([] ∷ ps) (onto_first b ps))
some_more b true ps h = omega arith
some_more b false [] h = omega arith
some_more b false (p ∷ ps) h = omega arith

-- each text has a part
pub parts_some : (text : Text) → 0 < length (parts text)
parts_some [] = omega arith
parts_some (b ∷ text) = some_more b (eqb b 47) (parts text) (parts_some text)

onto_first-append : (b : ℕ) (ps qs : List Text) → 0 < length ps → onto_first b (ps ++ qs) ≡ onto_first b ps ++ qs
onto_first-append b [] qs h = absurd (omega arith)
onto_first-append b (p ∷ ps) qs h = refl

cut_more : (b : ℕ) (cut : Bool) (ps qs : List Text) → 0 < length ps → cond cut ([] ∷ (ps ++ qs)) (onto_first b (ps ++ qs)) ≡ cond cut ([] ∷ ps) (onto_first b ps) ++ qs
cut_more b true ps qs h = refl
cut_more b false ps qs h = onto_first-append b ps qs h

-- the parts of two texts with a slash between them
pub parts_join : (a b : Text) → parts (a ++ 47 ∷ b) ≡ parts a ++ parts b
parts_join [] b = refl
parts_join (c ∷ a) b = ap (λ (ps : List Text). cond (eqb c 47) ([] ∷ ps) (onto_first c ps)) (parts_join a b) ∙ cut_more c (eqb c 47) (parts a) (parts b) (parts_some a)

pub path_in_good : (dir rest : Text) → IsDirPath dir → length rest ≤ 499 → length (parts rest) ≤ 20 → All IsPathPart (parts rest) → IsFilePath (path_in dir rest)
path_in_good dir rest good short few each =
    let dir_short = good.short in
    let dir_few = good.few in
    let joined = parts_join dir rest in
    record {
      short = omega (arith, dir_short, short, length-append dir (47 ∷ rest));
      few = omega (arith, dir_few, few, ap length joined, length-append (parts dir) (parts rest));
      each = subst (All IsPathPart) (sym joined) (All-append IsPathPart (parts dir) (parts rest) good.path.each each);
    }

-- the test of a printable byte
abbrev pub plain_byte : ℕ → Bool
plain_byte b = leb 32 b && not (eqb b 127)

printable_byte : (b : ℕ) (more : Bool) → (plain_byte b && more) ≡ true → IsPrintable b × (more ≡ true)
printable_byte b more e = grind (arith, nat_tests)

-- a text whose bytes are known
pub printable_text : (text : Text) → list_all plain_byte text ≡ true → All IsPrintable text
printable_text [] e = All-nil IsPrintable
printable_text (b ∷ text) e = let both = printable_byte b (list_all plain_byte text) e in All-cons IsPrintable b text both.0 (printable_text text both.1)

pub literal_part : (text : Text) → 3 ≤ length text → length text ≤ 255 → list_all plain_byte text ≡ true → IsPathPart text
literal_part text long short clean = record {
  some = omega arith;
  short = short;
  no_dot = λ e. absurd (omega (arith, ap length e));
  no_dots = λ e. absurd (omega (arith, ap length e));
  printable = printable_text text clean;
}

service_part : (file : ServiceFile) → IsPathPart (service_text file)
service_part Journal = literal_part (codes ".gopass-journal") (omega arith) (omega arith) refl
service_part Mounts = literal_part (codes ".gopass-mounts") (omega arith) (omega arith) refl
service_part Pending = literal_part (codes ".gopass-pending") (omega arith) (omega arith) refl

pub one_part : (dir rest : Text) → IsDirPath dir → length rest ≤ 255 → parts rest ≡ rest ∷ [] → IsPathPart rest → IsFilePath (path_in dir rest)
one_part dir rest good short one part =
    path_in_good dir rest good (omega arith) (omega (arith, ap length one)) (subst (All IsPathPart) (sym one) (All-cons IsPathPart rest [] part (All-nil IsPathPart)))

pub service_good : (dir : Text) (file : ServiceFile) → IsDirPath dir → IsFilePath (path_in dir (service_text file))
service_good dir Journal good = one_part dir (codes ".gopass-journal") good (omega arith) refl (service_part Journal)
service_good dir Mounts good = one_part dir (codes ".gopass-mounts") good (omega arith) refl (service_part Mounts)
service_good dir Pending good = one_part dir (codes ".gopass-pending") good (omega arith) refl (service_part Pending)
