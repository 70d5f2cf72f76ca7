-- The lines of rows: no two rows have one line, and no two lists of rows one text.
use Rattle.std.proofs.Common.{◌≡◌, ◌≢◌, ◌⊎◌, inl, inr, ℕ, ◌+◌, ◌<◌, List, [], ◌∷◌, ◌++◌, length, Bool, true, false, All, codes, refl, ap, sym, ◌∙◌, subst, arith, append_assoc, length-append}
use Rattle.std.proofs.lemmas.List.{append-nil, get_or_at, get_or_append_left}
use Rattle.std.proofs.lemmas.List.Elements.{All-cons, All-head, All-tail, All-append, All-from_get_or}
use Rattle.gopass_base.specs.Text.{Text, IsPrintable}
use Rattle.gopass_base.specs.Lines.{Lacks, IsCut}
use Rattle.mount_table.specs.Mounts.{IsRow, IsBefore, no_row, row_at, AreRows, IsTable}
use Rattle.mount_table.specs.MountsText.{flag_of, line_of, table_text, CanFollow, IsFirstBad}
use Rattle.mount_table.specs.declared.mounts.Row.{Row}
use Rattle.gopass_base.proofs.JoinLemmas.{printable_text}
use Rattle.mount_table.specs.Folders.{IsFolder}
use Rattle.std.proofs.lemmas.List.Elements.{All-nil}
use Rattle.gopass_base.proofs.CleanLemmas.{whole_text, clean_dir, lacks_control, same_cut, no_cut}

pub clean_folder : (text : Text) → IsFolder text → All IsPrintable text
clean_folder [] folder = All-nil IsPrintable
clean_folder (b ∷ text) folder = whole_text (b ∷ text) (λ k d lt. (folder.each k d lt).printable)

pub alias_lacks : (row : Row) (c : ℕ) → c < 32 → IsRow row → Lacks c row.alias
alias_lacks row c low good = lacks_control c row.alias low (clean_folder row.alias good.alias_folder)

pub dir_lacks : (row : Row) (c : ℕ) → c < 32 → IsRow row → Lacks c row.dir
dir_lacks row c low good = lacks_control c row.dir low (clean_dir row.dir good.dir_path)

flag_lacks : (git : Bool) (c : ℕ) → c < 32 → Lacks c (flag_of git)
flag_lacks true c low = lacks_control c (codes "git") low (printable_text (codes "git") refl)
flag_lacks false c low = lacks_control c (codes "plain") low (printable_text (codes "plain") refl)

same_flag : (a b : Bool) → flag_of a ≡ flag_of b → a ≡ b
same_flag true true e = refl
same_flag false false e = refl
same_flag true false e = cc
same_flag false true e = cc

-- no line has a line feed
pub one_line : (row : Row) → IsRow row → Lacks 10 (line_of row)
one_line row good =
    All-append (λ b. b ≢ 10) row.alias (9 ∷ (row.dir ++ 9 ∷ flag_of row.git)) (alias_lacks row 10 (omega arith) good)
    (All-cons (λ b. b ≢ 10) 9 (row.dir ++ 9 ∷ flag_of row.git) (λ e. absurd (omega (arith, e)))
    (All-append (λ b. b ≢ 10) row.dir (9 ∷ flag_of row.git) (dir_lacks row 10 (omega arith) good)
    (All-cons (λ b. b ≢ 10) 9 (flag_of row.git) (λ e. absurd (omega (arith, e))) (flag_lacks row.git 10 (omega arith)))))

-- the fields of a line are those of its row
pub fields_are : (line alias dir flag : Text) (row : Row) → line ≡ alias ++ 9 ∷ (dir ++ 9 ∷ flag) → Lacks 9 alias → Lacks 9 dir → IsRow row → line ≡ line_of row → (alias ≡ row.alias) × (dir ≡ row.dir) × (flag ≡ flag_of row.git)
fields_are line alias dir flag row cut no_tab no_tab' good is =
    let front = same_cut 9 alias row.alias (dir ++ 9 ∷ flag) (row.dir ++ 9 ∷ flag_of row.git) no_tab (alias_lacks row 9 (omega arith) good) (sym cut ∙ is) in
    let back = same_cut 9 dir row.dir flag (flag_of row.git) no_tab' (dir_lacks row 9 (omega arith) good) front.1 in
    (front.0, back.0, back.1)

pub same_row : (a b : Row) → IsRow a → IsRow b → line_of a ≡ line_of b → a ≡ b
same_row a b good good' e =
    let f = fields_are (line_of a) a.alias a.dir (flag_of a.git) b refl (alias_lacks a 9 (omega arith) good) (dir_lacks a 9 (omega arith) good) good' e in
    let git = same_flag a.git b.git f.2 in
    λ i. record { alias = f.0 i; dir = f.1 i; git = git i }

pub first_lines : (a b : Row) (t u : Text) → IsRow a → IsRow b → line_of a ++ 10 ∷ t ≡ line_of b ++ 10 ∷ u → (a ≡ b) × (t ≡ u)
first_lines a b t u good good' e =
    let lines = same_cut 10 (line_of a) (line_of b) t u (one_line a good) (one_line b good') e in
    (same_row a b good good' lines.0, lines.1)

-- of two lists of rows that one text begins with, the longer begins with the shorter
abbrev pub Agrees : (xs ys : List Row) (r s : Text) → Type 0
Agrees xs ys r s = ((zs : List Row) × (ys ≡ xs ++ zs) × (r ≡ table_text zs ++ s)) ⊎ ((zs : List Row) × (xs ≡ ys ++ zs) × (s ≡ table_text zs ++ r))

agrees_more : (x : Row) (xs ys : List Row) (r s : Text) → Agrees xs ys r s → Agrees (x ∷ xs) (x ∷ ys) r s
agrees_more x xs ys r s (inl (zs, e, f)) = inl (zs, ap (λ (t : List Row). x ∷ t) e, f)
agrees_more x xs ys r s (inr (zs, e, f)) = inr (zs, ap (λ (t : List Row). x ∷ t) e, f)

pub agree : (xs ys : List Row) (r s : Text) → All IsRow xs → All IsRow ys → table_text xs ++ r ≡ table_text ys ++ s → Agrees xs ys r s
agree [] ys r s h k e = inl (ys, refl, e)
agree (x ∷ xs) [] r s h k e = inr (x ∷ xs, refl, sym e)
agree (x ∷ xs) (y ∷ ys) r s h k e =
    let first = first_lines x y (table_text xs ++ r) (table_text ys ++ s) (All-head IsRow x xs h) (All-head IsRow y ys k)
    (sym (append_assoc (line_of x) (10 ∷ table_text xs) r) ∙ (e ∙ append_assoc (line_of y) (10 ∷ table_text ys) s)) in
    subst (λ (z : Row). Agrees (x ∷ xs) (z ∷ ys) r s) first.0
    (agrees_more x xs ys r s (agree xs ys r s (All-tail IsRow x xs h) (All-tail IsRow y ys k) first.1))

-- ---- rows that stand one behind another

pub all_rows : (root : Text) (rows : List Row) → AreRows root rows → All IsRow rows
all_rows root rows are = All-from_get_or IsRow rows no_row are.each

pub fewer_rows : (root : Text) (xs ys : List Row) → AreRows root (xs ++ ys) → AreRows root xs
fewer_rows root xs ys are =
    let long = length-append xs ys in
    record {
      most = (let most = are.most in omega (arith, long));
      each = λ k lt. subst IsRow (left k lt) (are.each k (omega arith));
      first = λ some. subst (λ (r : Row). (r.alias ≡ []) × (r.dir ≡ root)) (left 0 some) (are.first (omega arith));
      before = λ i k lt inside. subst (λ (r : Row). IsBefore r (row_at xs k)) (left i (omega arith)) (subst (λ (r : Row). IsBefore (row_at (xs ++ ys) i) r) (left k inside) (are.before i k lt (omega arith)));
    }
  where
    left : (k : ℕ) → k < length xs → row_at (xs ++ ys) k ≡ row_at xs k
    left k lt = get_or_append_left xs ys no_row k lt

pub last_follows : (root : Text) (rows : List Row) (row : Row) → AreRows root (rows ++ row ∷ []) → IsRow row × CanFollow root rows row
last_follows root rows row are = (
  subst IsRow seam (are.each (length rows) (omega (arith, long))),
  record {
    room = (let most = are.most in omega (arith, long));
    first = λ none. subst (λ (r : Row). (r.alias ≡ []) × (r.dir ≡ root)) (ap (row_at (rows ++ row ∷ [])) (sym none) ∙ seam) (are.first (omega (arith, long)));
    behind = λ k lt. subst (λ (r : Row). IsBefore r row) (get_or_append_left rows (row ∷ []) no_row k lt)
        (subst (λ (r : Row). IsBefore (row_at (rows ++ row ∷ []) k) r) seam (are.before k (length rows) lt (omega (arith, long))));
  },
)
  where
    long : length (rows ++ row ∷ []) ≡ length rows + 1
    long = length-append rows (row ∷ [])

    seam : row_at (rows ++ row ∷ []) (length rows) ≡ row
    seam = get_or_at rows row [] no_row (length rows) refl

pub more_rows : (root : Text) (rows : List Row) (row : Row) → AreRows root rows → IsRow row → CanFollow root rows row → AreRows root (rows ++ row ∷ [])
more_rows root rows row are good can = record {
  most = (let room = can.room in omega (arith, long));
  each = λ k lt. elim (split k (omega (arith, long))) [
    | inl low ↦ subst IsRow (sym (left k low)) (are.each k low)
    | inr last ↦ subst IsRow (sym (ap (row_at (rows ++ row ∷ [])) last ∙ seam)) good
  ];
  first = λ some. elim (split 0 (omega arith)) [
    | inl low ↦ subst (λ (r : Row). (r.alias ≡ []) × (r.dir ≡ root)) (sym (left 0 low)) (are.first low)
    | inr none ↦ subst (λ (r : Row). (r.alias ≡ []) × (r.dir ≡ root)) (sym (ap (row_at (rows ++ row ∷ [])) none ∙ seam)) (can.first (sym none))
  ];
  before = λ i k lt inside. subst (λ (r : Row). IsBefore r (row_at (rows ++ row ∷ []) k)) (sym (left i (omega (arith, long)))) (elim (split k (omega (arith, long))) [
    | inl low ↦ subst (λ (r : Row). IsBefore (row_at rows i) r) (sym (left k low)) (are.before i k lt low)
    | inr last ↦ subst (λ (r : Row). IsBefore (row_at rows i) r) (sym (ap (row_at (rows ++ row ∷ [])) last ∙ seam)) (can.behind i (omega (arith, last)))
  ]);
}
  where
    long : length (rows ++ row ∷ []) ≡ length rows + 1
    long = length-append rows (row ∷ [])

    split : (k : ℕ) → k < length rows + 1 → (k < length rows) ⊎ (k ≡ length rows)
    split k lt = grind arith

    left : (k : ℕ) → k < length rows → row_at (rows ++ row ∷ []) k ≡ row_at rows k
    left k lt = get_or_append_left rows (row ∷ []) no_row k lt

    seam : row_at (rows ++ row ∷ []) (length rows) ≡ row
    seam = get_or_at rows row [] no_row (length rows) refl

pub no_rows : (root : Text) → AreRows root []
no_rows root = record {
  most = omega arith;
  each = λ k lt. absurd (omega (arith, lt));
  first = λ some. absurd (omega (arith, some));
  before = λ i k lt inside. absurd (omega (arith, inside));
}

pub text_more : (rows : List Row) (row : Row) (rest : Text) → table_text (rows ++ row ∷ []) ++ rest ≡ table_text rows ++ (line_of row ++ 10 ∷ rest)
text_more [] row rest = append_assoc (line_of row) (10 ∷ []) rest
text_more (first ∷ rows) row rest =
    append_assoc (line_of first) (10 ∷ table_text (rows ++ row ∷ [])) rest
    ∙ (ap (λ (t : Text). line_of first ++ 10 ∷ t) (text_more rows row rest) ∙ sym (append_assoc (line_of first) (10 ∷ table_text rows) (line_of row ++ 10 ∷ rest)))

-- ---- no two readings

next_row : (root : Text) (xs : List Row) (z : Row) (zs ys : List Row) → AreRows root ys → ys ≡ xs ++ z ∷ zs → AreRows root (xs ++ z ∷ [])
next_row root xs z zs ys are e = fewer_rows root (xs ++ z ∷ []) zs (subst (AreRows root) (e ∙ sym (append_assoc xs (z ∷ []) zs)) are)

bad_meets : (root bytes : Text) (n : ℕ) (bad : IsFirstBad root bytes n) (ys zs : List Row) (s : Text) → AreRows root ys → ys ≡ bad.rows ++ zs → bad.rest ≡ table_text zs ++ s → zs ≡ []
bad_meets root bytes n bad ys [] s are e f = refl
bad_meets root bytes n bad ys (z ∷ zs) s are e f = absurd (bad.none z (table_text zs ++ s) (next_row root bad.rows z zs ys are e) (f ∙ append_assoc (line_of z) (10 ∷ table_text zs) s))

pub one_bad_line : (root bytes : Text) (m n : ℕ) → IsFirstBad root bytes m → IsFirstBad root bytes n → m ≡ n
one_bad_line root bytes m n bad bad' = elim (agree bad.rows bad'.rows bad.rest bad'.rest (all_rows root bad.rows bad.good) (all_rows root bad'.rows bad'.good) (sym bad.text ∙ bad'.text)) [
  | inl (zs, e, f) ↦ (let none = bad_meets root bytes m bad bad'.rows zs bad'.rest bad'.good e f in
      let same = e ∙ (ap (λ (t : List Row). bad.rows ++ t) none ∙ append-nil bad.rows) in bad.number ∙ (ap (λ (t : List Row). length t + 1) (sym same) ∙ sym bad'.number))
  | inr (zs, e, f) ↦ (let none = bad_meets root bytes n bad' bad.rows zs bad.rest bad.good e f in
      let same = e ∙ (ap (λ (t : List Row). bad'.rows ++ t) none ∙ append-nil bad'.rows) in bad.number ∙ (ap (λ (t : List Row). length t + 1) same ∙ sym bad'.number))
]

nothing_left : (zs : List Row) (s : Text) → [] ≡ table_text zs ++ s → (zs ≡ []) × (length s ≡ 0)
nothing_left [] s e = (refl, ap length (sym e))
nothing_left (z ∷ zs) s e = absurd (omega (arith, ap length e, length-append (table_text (z ∷ zs)) s, length-append (line_of z) (10 ∷ table_text zs)))

pub no_bad_line : (root : Text) (rows : List Row) (n : ℕ) → IsTable root rows → ¬ IsFirstBad root (table_text rows) n
no_bad_line root rows n table bad = elim (agree rows bad.rows [] bad.rest (all_rows root rows table.rows_are) (all_rows root bad.rows bad.good) (append-nil (table_text rows) ∙ bad.text)) [
  | inl (zs, e, f) ↦ (let left = nothing_left zs bad.rest f in let some = table.some in
      absurd (omega (arith, bad.unfinished left.1, ap length e, length-append rows zs)))
  | inr (zs, e, f) ↦ (let none = bad_meets root (table_text rows) n bad rows zs [] table.rows_are e f in let some = table.some in
      let empty : length bad.rest ≡ 0 = ap length (f ∙ ap (λ (t : List Row). table_text t ++ []) none) in
      absurd (omega (arith, bad.unfinished empty, ap length (e ∙ (ap (λ (t : List Row). bad.rows ++ t) none ∙ append-nil bad.rows)))))
]

pub one_text : (root other : Text) (rows others : List Row) → IsTable root rows → IsTable other others → table_text rows ≡ table_text others → rows ≡ others
one_text root other rows others table table' same = elim (agree rows others [] [] (all_rows root rows table.rows_are) (all_rows other others table'.rows_are) (ap (λ (t : Text). t ++ []) same)) [
  | inl (zs, e, f) ↦ sym (e ∙ (ap (λ (t : List Row). rows ++ t) (nothing_left zs [] f).0 ∙ append-nil rows))
  | inr (zs, e, f) ↦ e ∙ (ap (λ (t : List Row). others ++ t) (nothing_left zs [] f).0 ∙ append-nil others)
]

-- ---- what a reader says

-- a line with one tab alone is that of no row
pub no_second : (line alias rest : Text) (row : Row) → line ≡ alias ++ 9 ∷ rest → Lacks 9 alias → Lacks 9 rest → IsRow row → line ≢ line_of row
no_second line alias rest row cut lacks lacks' good is =
    no_cut 9 rest row.dir (flag_of row.git) lacks' (same_cut 9 alias row.alias rest (row.dir ++ 9 ∷ flag_of row.git) lacks (alias_lacks row 9 (omega arith) good) (sym cut ∙ is)).1

-- what is read so far, and what is left
pub record SoFar (root bytes : Text) (rows : List Row) (rest : Text) : Type 0 where
  pub text : bytes ≡ table_text rows ++ rest
  pub good : AreRows root rows

pub starts : (root bytes : Text) (rows : List Row) → rows ≡ [] → SoFar root bytes rows bytes
starts root bytes rows none = subst (λ (r : List Row). SoFar root bytes r bytes) (sym none) (record { text = refl; good = no_rows root })

pub goes_on : (root bytes rest line after : Text) (rows lent now : List Row) (row : Row) → SoFar root bytes rows rest → IsCut 10 rest line after → IsRow row × CanFollow root lent row × (line ≡ line_of row) → lent ≡ rows → now ≡ rows ++ row ∷ [] → SoFar root bytes now after
goes_on root bytes rest line after rows lent now row so_far cut read same is =
    let can : CanFollow root rows row = subst (λ (r : List Row). CanFollow root r row) same read.1 in
    subst (λ (r : List Row). SoFar root bytes r after) (sym is) (record {
      text = so_far.text ∙ (ap (λ (t : Text). table_text rows ++ t) (cut.0 ∙ ap (λ (t : Text). t ++ 10 ∷ after) read.2) ∙ sym (text_more rows row after));
      good = more_rows root rows row so_far.good read.0 can;
    })

pub line_is_bad : (root bytes rest line after : Text) (rows lent : List Row) (n : ℕ) → SoFar root bytes rows rest → IsCut 10 rest line after → lent ≡ rows
    → (n ≡ length lent + 1) × ((row : Row) → IsRow row → CanFollow root lent row → line ≢ line_of row) → IsFirstBad root bytes n
line_is_bad root bytes rest line after rows lent n so_far cut same bad = record {
  rows = rows;
  rest = rest;
  text = so_far.text;
  good = so_far.good;
  number = bad.0 ∙ ap (λ (r : List Row). length r + 1) same;
  none = λ row more are begins. (let (good, can) = last_follows root rows row are in
      bad.1 row good (subst (λ (r : List Row). CanFollow root r row) (sym same) can) (same_cut 10 line (line_of row) after more cut.1 (one_line row good) (sym cut.0 ∙ begins)).0);
  unfinished = λ none. absurd (omega (arith, none, ap length cut.0, length-append line (10 ∷ after)));
}

pub rest_is_bad : (root bytes rest : Text) (rows : List Row) (n : ℕ) → SoFar root bytes rows rest → Lacks 10 rest → (length rest ≡ 0 → length rows ≡ 0) → n ≡ length rows + 1 → IsFirstBad root bytes n
rest_is_bad root bytes rest rows n so_far lacks unfinished number = record {
  rows = rows;
  rest = rest;
  text = so_far.text;
  good = so_far.good;
  number = number;
  none = λ row more are begins. no_cut 10 rest (line_of row) more lacks begins;
  unfinished = unfinished;
}

nothing : (rest : Text) → length rest ≡ 0 → rest ≡ []
nothing [] e = refl
nothing (b ∷ rest) e = absurd (omega arith)

pub ends_well : (root bytes rest : Text) (rows : List Row) → SoFar root bytes rows rest → length rest ≡ 0 → length rows ≢ 0 → IsTable root rows × (bytes ≡ table_text rows)
ends_well root bytes rest rows so_far none some = (
  record { some = omega arith; rows_are = so_far.good },
  so_far.text ∙ (ap (λ (t : Text). table_text rows ++ t) (nothing rest none) ∙ append-nil (table_text rows)),
)
