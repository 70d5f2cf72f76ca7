-- The paths of the vault's own files are paths of files.
use Rattle.std.proofs.Common.{◌≡◌, ℕ, ◌/◌, List, [], ◌∷◌, ◌++◌, length, codes, All, refl, ap, sym, ◌∙◌, subst, arith, append_assoc}
use Rattle.std.proofs.lemmas.List.Elements.{All-nil, All-cons}
use Rattle.gopass_base.specs.Text.{Text, IsPrintable}
use Rattle.gopass_base.specs.Parts.{parts}
use Rattle.gopass_base.specs.Paths.{IsPathPart, IsFilePath, IsDirPath, path_in}
use Rattle.gopass_base.proofs.JoinLemmas.{path_in_good, parts_join, literal_part, one_part}
use Rattle.pending_journal.specs.Journal.{digit, six_digits, stage_path}
use Rattle.pending_journal.proofs.ServiceLemmas.{six_parts}

pub fresh_good : (root : Text) → IsDirPath root → IsFilePath (path_in root (codes ".gopass-journal.new"))
fresh_good root good = one_part root (codes ".gopass-journal.new") good (omega arith) refl (literal_part (codes ".gopass-journal.new") (omega arith) (omega arith) refl)

stage_part : IsPathPart (codes ".gopass-stage")
stage_part = literal_part (codes ".gopass-stage") (omega arith) (omega arith) refl

pub stage_dir_good : (root : Text) → IsDirPath root → IsFilePath (path_in root (codes ".gopass-stage"))
stage_dir_good root good = one_part root (codes ".gopass-stage") good (omega arith) refl stage_part

-- ---- the path of a staged file

shown : (n : ℕ) → IsPrintable (digit n)
shown n = (omega arith, λ e. absurd (omega (arith, e)))

abbrev a : ℕ → ℕ
a i = digit (i / 100000)

abbrev b : ℕ → ℕ
b i = digit (i / 10000)

abbrev c : ℕ → ℕ
c i = digit (i / 1000)

abbrev d : ℕ → ℕ
d i = digit (i / 100)

abbrev e : ℕ → ℕ
e i = digit (i / 10)

digits_shown : (i : ℕ) → All IsPrintable (six_digits i)
digits_shown i =
    All-cons IsPrintable (a i) (b i ∷ c i ∷ d i ∷ e i ∷ digit i ∷ []) (shown (i / 100000))
    (All-cons IsPrintable (b i) (c i ∷ d i ∷ e i ∷ digit i ∷ []) (shown (i / 10000))
    (All-cons IsPrintable (c i) (d i ∷ e i ∷ digit i ∷ []) (shown (i / 1000))
    (All-cons IsPrintable (d i) (e i ∷ digit i ∷ []) (shown (i / 100))
    (All-cons IsPrintable (e i) (digit i ∷ []) (shown (i / 10))
    (All-cons IsPrintable (digit i) [] (shown i) (All-nil IsPrintable))))))

digits_part : (i : ℕ) → IsPathPart (six_digits i)
digits_part i = record {
  some = omega arith;
  short = omega arith;
  no_dot = λ e. absurd (omega (arith, ap length e));
  no_dots = λ e. absurd (omega (arith, ap length e));
  printable = digits_shown i;
}

-- what stands behind the root directory in the path of a staged file
abbrev pub stage_rest : ℕ → Text
stage_rest i = codes ".gopass-stage/" ++ six_digits i

stage_rest_parts : (i : ℕ) → parts (stage_rest i) ≡ codes ".gopass-stage" ∷ six_digits i ∷ []
stage_rest_parts i = parts_join (codes ".gopass-stage") (six_digits i) ∙ ap (λ (ps : List Text). codes ".gopass-stage" ∷ ps) (six_parts i)

pub stage_good : (root : Text) (i : ℕ) → IsDirPath root → IsFilePath (path_in root (stage_rest i))
stage_good root i good =
    path_in_good root (stage_rest i) good (omega arith) (omega (arith, ap length (stage_rest_parts i)))
    (subst (All IsPathPart) (sym (stage_rest_parts i))
    (All-cons IsPathPart (codes ".gopass-stage") (six_digits i ∷ []) stage_part (All-cons IsPathPart (six_digits i) [] (digits_part i) (All-nil IsPathPart))))

pub stage_path_is : (root : Text) (i : ℕ) → path_in root (stage_rest i) ≡ stage_path root i
unfolding stage_path
stage_path_is root i = sym (append_assoc root (47 ∷ codes ".gopass-stage") (47 ∷ six_digits i))
