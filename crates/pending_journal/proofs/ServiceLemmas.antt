-- The vault's own files.
use Rattle.std.proofs.Common.{◌≡◌, ◌≢◌, ℕ, ◌<◌, ◌/◌, Bool, true, false, ◌||◌, [], ◌∷◌, length, get_or, codes, bytes_eq, cond, Option, None, Some, All, refl, sym, ◌∙◌, ap, subst, arith, length-append, append_assoc}
use Rattle.std.specs.List.{onto_first}
use Rattle.std.proofs.lemmas.Bool.{false≢true, ne_eqb}
use Rattle.std.proofs.lemmas.List.Elements.{All-nil, All-cons}
use Rattle.gopass_base.specs.Text.{Text}
use Rattle.gopass_base.specs.Parts.{parts}
use Rattle.gopass_base.specs.Paths.{path_in}
use Rattle.disk_model.specs.Listing.{LiesIn, lies_in, rest_in}
use Rattle.disk_model.proofs.FileLemmas.{other_path}
use Rattle.disk_model.proofs.ListingLemmas.{rest_at, rest_is, lies_by, lies_tells}
use Rattle.pending_journal.specs.Service.{is_service, is_service_rest, journal_path, fresh_path, stage_dir}
use Rattle.pending_journal.specs.Journal.{digit, six_digits, stage_path}

-- one of the three
last_true : (a b c : Bool) → (a || (b || c)) ≡ true → a ≡ false → b ≡ false → c ≡ true
last_true a b c is x y = sym (ap (λ t. t || (b || c)) x ∙ ap (λ t. t || c) y) ∙ is

third : (a b c : Bool) → c ≡ true → (a || (b || c)) ≡ true
third true b c is = refl
third false true c is = refl
third false false c is = is

service_at : (root rest : Text) → is_service root (path_in root rest) ≡ is_service_rest (Some rest)
service_at root rest = ap is_service_rest (rest_at root rest)

pub service_journal : (root : Text) → is_service root (journal_path root) ≡ true
service_journal root = service_at root (codes ".gopass-journal")

pub service_fresh : (root : Text) → is_service root (fresh_path root) ≡ true
service_fresh root = service_at root (codes ".gopass-journal.new")

pub fresh_apart : (root : Text) → fresh_path root ≢ journal_path root
fresh_apart root e = absurd (omega (arith, ap length e, length-append root (47 ∷ codes ".gopass-journal.new"), length-append root (47 ∷ codes ".gopass-journal")))

abbrev eighth : Option Text → ℕ
eighth None = 0
eighth (Some text) = get_or text 8 0

-- what lies in the stage, seen from the root directory
in_stage : (root rest : Text) → path_in (stage_dir root) rest ≡ path_in root (path_in (codes ".gopass-stage") rest)
in_stage root rest = append_assoc root (47 ∷ codes ".gopass-stage") (47 ∷ rest)

stage_not : (root rest name : Text) → get_or name 8 0 ≡ 106 → path_in (stage_dir root) rest ≢ path_in root name
stage_not root rest name is e =
    let same : 115 ≡ 106 = ap eighth (sym (rest_at root (path_in (codes ".gopass-stage") rest)) ∙ ap (rest_in root) (sym (in_stage root rest) ∙ e) ∙ rest_at root name) ∙ is in
    absurd (omega (arith, same))

-- what lies in the stage is the vault's own, and neither the journal nor its new text
pub below_service : (root q : Text) → LiesIn (stage_dir root) q → is_service root q ≡ true
below_service root q lies =
    let inner : Text = path_in (codes ".gopass-stage") lies.rest in
    ap (is_service root) (lies.whole ∙ in_stage root lies.rest) ∙ service_at root inner
    ∙ third (bytes_eq inner (codes ".gopass-journal")) (bytes_eq inner (codes ".gopass-journal.new")) (lies_in (codes ".gopass-stage") inner)
    (lies_tells (codes ".gopass-stage") inner (record { rest = lies.rest; whole = refl; no_git = lies.no_git }))

pub below_not_journal : (root q : Text) → LiesIn (stage_dir root) q → q ≢ journal_path root
below_not_journal root q lies e = stage_not root lies.rest (codes ".gopass-journal") refl (sym lies.whole ∙ e)

pub below_not_fresh : (root q : Text) → LiesIn (stage_dir root) q → q ≢ fresh_path root
below_not_fresh root q lies e = stage_not root lies.rest (codes ".gopass-journal.new") refl (sym lies.whole ∙ e)

-- the vault's own files are the journal, its new text, and what lies in the stage
pub service_only : (root q : Text) → is_service root q ≡ true → q ≢ journal_path root → q ≢ fresh_path root → LiesIn (stage_dir root) q
service_only root q is not_journal not_fresh = elim (rest_in root q) as (λ r. rest_in root q ≡ r → is_service_rest r ≡ true → LiesIn (stage_dir root) q) [
  | None ↦ λ e on. absurd (false≢true on)
  | Some rest ↦ λ e on.
      let whole : q ≡ path_in root rest = rest_is root q rest e in
      let lies = lies_by (codes ".gopass-stage") rest (last_true (bytes_eq rest (codes ".gopass-journal")) (bytes_eq rest (codes ".gopass-journal.new")) (lies_in (codes ".gopass-stage") rest) on
      (other_path rest (codes ".gopass-journal") (λ t. not_journal (whole ∙ ap (path_in root) t)))
      (other_path rest (codes ".gopass-journal.new") (λ t. not_fresh (whole ∙ ap (path_in root) t)))) in
      record { rest = lies.rest; whole = whole ∙ ap (path_in root) lies.whole ∙ sym (in_stage root lies.rest); no_git = lies.no_git }
] refl is

-- ---- the names in the stage
digit_not : (n : ℕ) → digit n ≢ 47
digit_not n e = absurd (omega (arith, e))

parts_cons : (b : ℕ) (rest : Text) → b ≢ 47 → parts rest ≡ rest ∷ [] → parts (b ∷ rest) ≡ (b ∷ rest) ∷ []
parts_cons b rest other one = ap (λ t. cond t ([] ∷ parts rest) (onto_first b (parts rest))) (ne_eqb b 47 other) ∙ ap (onto_first b) one

-- six digits are one part
pub six_parts : (i : ℕ) → parts (six_digits i) ≡ six_digits i ∷ []
six_parts i =
    parts_cons (digit (i / 100000)) _ (digit_not (i / 100000)) (parts_cons (digit (i / 10000)) _ (digit_not (i / 10000)) (parts_cons (digit (i / 1000)) _ (digit_not (i / 1000))
    (parts_cons (digit (i / 100)) _ (digit_not (i / 100)) (parts_cons (digit (i / 10)) _ (digit_not (i / 10)) (parts_cons (digit i) [] (digit_not i) refl)))))

pub stage_lies : (root : Text) (i : ℕ) → LiesIn (stage_dir root) (stage_path root i)
unfolding stage_path
stage_lies root i = record {
  rest = six_digits i;
  whole = refl;
  no_git = subst (All (λ part. part ≢ codes ".git")) (sym (six_parts i)) (All-cons (λ part. part ≢ codes ".git") (six_digits i) [] (λ e. absurd (omega (arith, ap length e))) (All-nil (λ part. part ≢ codes ".git")));
}

pub stage_service : (root : Text) (i : ℕ) → is_service root (stage_path root i) ≡ true
stage_service root i = below_service root (stage_path root i) (stage_lies root i)

pub stage_not_journal : (root : Text) (i : ℕ) → stage_path root i ≢ journal_path root
stage_not_journal root i = below_not_journal root (stage_path root i) (stage_lies root i)

pub stage_not_fresh : (root : Text) (i : ℕ) → stage_path root i ≢ fresh_path root
stage_not_fresh root i = below_not_fresh root (stage_path root i) (stage_lies root i)

same_digits : (i j : ℕ) → i < 100000 → j < 100000 → digit (i / 10000) ≡ digit (j / 10000) → digit (i / 1000) ≡ digit (j / 1000) → digit (i / 100) ≡ digit (j / 100)
    → digit (i / 10) ≡ digit (j / 10) → digit i ≡ digit j → i ≡ j
same_digits i j less less' a b c d e = omega (arith, less, less', a, b, c, d, e)

-- below 100,000 a name in the stage is of one number
pub stage_one : (root : Text) (i j : ℕ) → i < 100000 → j < 100000 → stage_path root i ≡ stage_path root j → i ≡ j
unfolding stage_path
stage_one root i j less less' e =
    let same : six_digits i ≡ six_digits j = some_one (sym (rest_at (stage_dir root) (six_digits i)) ∙ ap (rest_in (stage_dir root)) e ∙ rest_at (stage_dir root) (six_digits j)) in
    same_digits i j less less' (ap (λ (t : Text). get_or t 1 0) same) (ap (λ (t : Text). get_or t 2 0) same) (ap (λ (t : Text). get_or t 3 0) same) (ap (λ (t : Text). get_or t 4 0) same) (ap (λ (t : Text). get_or t 5 0) same)
  where
    some_one : {a b : Text} → Some a ≡ Some b → a ≡ b
    some_one e = cc
