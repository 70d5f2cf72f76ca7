-- No two plans have one text.
use Rattle.std.proofs.Common.{◌≡◌, ◌≢◌, List, [], ◌∷◌, ◌++◌, get_or, codes, All, refl, ap, sym, ◌∙◌, arith}
use Rattle.std.specs.Prelude.{Option, None, Some}
use Rattle.std.proofs.lemmas.List.Elements.{All-nil, All-cons, All-head, All-tail}
use Rattle.gopass_base.specs.Text.{Text, IsPrintable}
use Rattle.gopass_base.specs.Paths.{IsFilePath}
use Rattle.gopass_base.specs.Lines.{Lacks}
use Rattle.gopass_base.proofs.CleanLemmas.{whole_text, lacks_control, same_cut}
use Rattle.disk_model.specs.Files.{Files}
use Rattle.pending_journal.specs.Service.{journal_path}
use Rattle.pending_journal.specs.Redo.{RecoversBy, RecoversTo, redone}
use Rattle.pending_journal.specs.Journal.{JournalPlan, IsJournalPlan, put_lines, drop_lines, journal_text}

-- ---- the path of a file has no line feed

pub clean_file : (text : Text) → IsFilePath text → All IsPrintable text
clean_file text file = whole_text text (λ k d lt. (file.each k d lt).printable)

pub no_feed : (text : Text) → IsFilePath text → Lacks 10 text
no_feed text file = lacks_control 10 text (omega arith) (clean_file text file)

-- ---- all of a list joined of two

pub All-left : (P : Text → Type 0) (xs ys : List Text) → All P (xs ++ ys) → All P xs
All-left P [] ys h = All-nil P
All-left P (x ∷ xs) ys h = All-cons P x xs (All-head P x (xs ++ ys) h) (All-left P xs ys (All-tail P x (xs ++ ys) h))

pub All-right : (P : Text → Type 0) (xs ys : List Text) → All P (xs ++ ys) → All P ys
All-right P [] ys h = h
All-right P (x ∷ xs) ys h = All-right P xs ys (All-tail P x (xs ++ ys) h)

-- ---- lines

-- the first path of two texts of lines, and what is behind it
pub first_path : (p q t u : Text) → IsFilePath p → IsFilePath q → p ++ 10 ∷ t ≡ q ++ 10 ∷ u → (p ≡ q) × (t ≡ u)
first_path p q t u good good' e = same_cut 10 p q t u (no_feed p good) (no_feed q good') e

-- texts with other first bytes differ
pub other_first : (t u : Text) → get_or t 0 0 ≢ get_or u 0 0 → t ≢ u
other_first t u other e = other (ap (λ (v : Text). get_or v 0 0) e)

one_drops : (xs ys : List Text) → All IsFilePath xs → All IsFilePath ys → drop_lines xs (codes "end\n") ≡ drop_lines ys (codes "end\n") → xs ≡ ys
one_drops [] [] h k e = refl
one_drops [] (y ∷ ys) h k e = absurd (other_first (codes "end\n") (drop_lines (y ∷ ys) (codes "end\n")) (λ e. absurd (omega (arith, e))) e)
one_drops (x ∷ xs) [] h k e = absurd (other_first (drop_lines (x ∷ xs) (codes "end\n")) (codes "end\n") (λ e. absurd (omega (arith, e))) e)
one_drops (x ∷ xs) (y ∷ ys) h k e =
    let here : x ++ 10 ∷ drop_lines xs (codes "end\n") ≡ y ++ 10 ∷ drop_lines ys (codes "end\n") = cc in
    let first = first_path x y (drop_lines xs (codes "end\n")) (drop_lines ys (codes "end\n")) (All-head IsFilePath x xs h) (All-head IsFilePath y ys k) here in
    let rest = one_drops xs ys (All-tail IsFilePath x xs h) (All-tail IsFilePath y ys k) first.1 in
    λ i. first.0 i ∷ rest i

-- the lines of drops begin with no put
pub no_put : (xs : List Text) (t : Text) → drop_lines xs (codes "end\n") ≢ codes "put\t" ++ t
no_put [] t e = other_first (codes "end\n") (codes "put\t" ++ t) (λ e. absurd (omega (arith, e))) e
no_put (x ∷ xs) t e = other_first (drop_lines (x ∷ xs) (codes "end\n")) (codes "put\t" ++ t) (λ e. absurd (omega (arith, e))) e

abbrev pub lines_of : List Text → List Text → Text
lines_of puts drops = put_lines puts (drop_lines drops (codes "end\n"))

one_lines : (ps qs xs ys : List Text) → All IsFilePath (ps ++ xs) → All IsFilePath (qs ++ ys) → lines_of ps xs ≡ lines_of qs ys → (ps ≡ qs) × (xs ≡ ys)
one_lines [] [] xs ys h k e = (refl, one_drops xs ys h k e)
one_lines [] (q ∷ qs) xs ys h k e = absurd (no_put xs (q ++ 10 ∷ lines_of qs ys) e)
one_lines (p ∷ ps) [] xs ys h k e = absurd (no_put ys (p ++ 10 ∷ lines_of ps xs) (sym e))
one_lines (p ∷ ps) (q ∷ qs) xs ys h k e =
    let here : p ++ 10 ∷ lines_of ps xs ≡ q ++ 10 ∷ lines_of qs ys = cc in
    let first = first_path p q (lines_of ps xs) (lines_of qs ys) (All-head IsFilePath p (ps ++ xs) h) (All-head IsFilePath q (qs ++ ys) k) here in
    let rest = one_lines ps qs xs ys (All-tail IsFilePath p (ps ++ xs) h) (All-tail IsFilePath q (qs ++ ys) k) first.1 in
    ((λ i. first.0 i ∷ rest.0 i), rest.1)

pub one_plan : (root : Text) (a b : JournalPlan) → IsJournalPlan root a → IsJournalPlan root b → journal_text a ≡ journal_text b → a ≡ b
one_plan root a b good good' e =
    let here : lines_of a.puts a.drops ≡ lines_of b.puts b.drops = cc in
    let both = one_lines a.puts b.puts a.drops b.drops good.paths good'.paths here in
    λ i. record { puts = both.0 i; drops = both.1 i }

one_by : (root : Text) (journal : Option Text) (files first second : Files) → RecoversBy root journal files first → RecoversBy root journal files second → first ≡ second
one_by root None files first second h k = h ∙ sym k
one_by root (Some text) files first second (a, good, is, after) (b, good', is', after') =
    after ∙ (ap (λ (plan : JournalPlan). redone root plan files) (one_plan root a b good good' (sym is ∙ is')) ∙ sym after')

-- what files stand for is one
pub one_meaning : (root : Text) (files first second : Files) → RecoversTo root files first → RecoversTo root files second → first ≡ second
one_meaning root files first second h k = one_by root (files (journal_path root)) files first second h k
