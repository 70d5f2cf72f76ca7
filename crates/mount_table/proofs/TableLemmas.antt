-- What holds of the rows of mounts, and stays where they change.
use Rattle.std.proofs.Common.{◌≡◌, ◌≢◌, ◌↔◌, ◌⊎◌, inl, inr, ℕ, ◌+◌, ◌-◌, ◌<◌, ◌≤◌, List, [], ◌∷◌, length, set, cond, ltb, Bool, true, false, refl, ap, sym, ◌∙◌, subst, arith}
use Rattle.std.specs.Prelude.{Option, Some, None, MatchOption, IsTrue}
use Rattle.std.specs.Bool.{MatchBool}
use Rattle.std.specs.List.{insert, remove, AllWithin, HoldsAt}
use Rattle.std.specs.Str.{is_utf8}
use Rattle.std.proofs.lemmas.List.{get_or-set_same, get_or-set_other, length-set}
use Rattle.std.proofs.lemmas.List.Edits.{get_or-insert_at, get_or-insert_below, get_or-insert_above, get_or-remove_below, get_or-remove_above, length-insert, length-remove}
use Rattle.std.proofs.lemmas.Bool.Decides.{nat_tests}
use Rattle.std.proofs.lemmas.Str.{is_utf8-from_IsUtf8, IsUtf8-nil}
use Rattle.gopass_base.specs.Text.{Text}
use Rattle.mount_table.specs.Prefixes.{folder_parts, IsPrefix, Holds, Nest}
use Rattle.mount_table.specs.Folders.{IsFolder}
use Rattle.gopass_base.specs.Paths.{IsDirPath}
use Rattle.mount_table.specs.Mounts.{IsBelow, IsRow, IsBefore, no_row, row_at, root_of, IsTable, new_row, HasAliasAt, LacksAlias, IsFirstNest, IsApart}
use Rattle.mount_table.specs.declared.mounts.Row.{Row}
use Rattle.mount_table.proofs.FolderNames.{root_folder}
use Rattle.mount_table.proofs.FolderLemmas.{root_of as holds_of_root}
use Rattle.mount_table.proofs.PrefixLemmas.{root_reaches}
use Rattle.mount_table.proofs.OrderLemmas.{not_below_nothing, below_through, below_other, more_parts}

le_or_lt : (k i : ℕ) → (k ≤ i) ⊎ (i < k)
le_or_lt k i = grind arith

-- where a place stands to another
pub sides : (i k : ℕ) → (i < k) ⊎ ((i ≡ k) ⊎ (k < i))
sides i k = grind arith

-- the rows of the root alone
pub only_root : (dir : Text) → IsTrue (is_utf8 dir) → IsDirPath dir → IsTable dir (new_row [] dir ∷ [])
only_root dir utf8 path = record {
  some = omega arith;
  rows_are = record {
    most = omega arith;
    each = λ k lt. subst (λ n. IsRow (row_at (new_row [] dir ∷ []) n)) {x = 0} {y = k} (omega arith) (record { alias_text = is_utf8-from_IsUtf8 [] IsUtf8-nil; alias_folder = root_folder; dir_text = utf8; dir_path = path });
    first = λ _. (refl, refl);
    before = λ i k lt inside. absurd (omega arith);
  };
}

-- ---- the mount of a name

pub root_holds : (root name : Text) (rows : List Row) → IsTable root rows → Holds (row_at rows 0).alias name
root_holds root name rows table = holds_of_root (row_at rows 0).alias name (let some = table.some in ap length (table.rows_are.first (omega arith)).0)

pub root_reaches_all : (root folder : Text) (rows : List Row) → IsTable root rows → IsPrefix (folder_parts (row_at rows 0).alias) (folder_parts folder)
root_reaches_all root folder rows table = root_reaches (row_at rows 0).alias folder (let some = table.some in ap length (table.rows_are.first (omega arith)).0)

-- the last row with such an alias has the most parts
pub last_has_most : (root : Text) (rows : List Row) (ps : List Text) (last : ℕ) → IsTable root rows → last < length rows → IsPrefix (folder_parts (row_at rows last).alias) ps
    → (j : ℕ) → j < length rows → IsPrefix (folder_parts (row_at rows j).alias) ps → (last < j → ⊥) → length (folder_parts (row_at rows j).alias) ≤ length (folder_parts (row_at rows last).alias)
last_has_most root rows ps last table inside here j lt there none = elim (sides j last) [
  | inl before ↦ more_parts (row_at rows j).alias (row_at rows last).alias ps there here (table.rows_are.before j last before inside).rises
  | inr (inl same) ↦ omega (arith, ap (λ n. length (folder_parts (row_at rows n).alias)) same)
  | inr (inr behind) ↦ absurd (none behind)
]

-- ---- rows that keep their places, or lose one

-- each row of `now` is one of `rows`, in the same order, but for git
pub record Stands (rows now : List Row) (from : ℕ → ℕ) : Type 0 where
  pub some : 1 ≤ length now
  pub fewer : length now ≤ length rows
  pub root_first : from 0 ≡ 0
  pub inside : (k : ℕ) → k < length now → from k < length rows
  pub order : (i k : ℕ) → i < k → from i < from k
  pub alias_is : (k : ℕ) → k < length now → (row_at rows (from k)).alias ≡ (row_at now k).alias
  pub dir_is : (k : ℕ) → k < length now → (row_at rows (from k)).dir ≡ (row_at now k).dir

same_row : (a b : Row) → a.alias ≡ b.alias → a.dir ≡ b.dir → IsRow a → IsRow b
same_row a b alias dir good = record {
  alias_text = subst (λ t. IsTrue (is_utf8 t)) alias good.alias_text;
  alias_folder = subst IsFolder alias good.alias_folder;
  dir_text = subst (λ t. IsTrue (is_utf8 t)) dir good.dir_text;
  dir_path = subst IsDirPath dir good.dir_path;
}

same_before : (a b c d : Row) → a.alias ≡ c.alias → a.dir ≡ c.dir → b.alias ≡ d.alias → b.dir ≡ d.dir → IsBefore a b → IsBefore c d
same_before a b c d alias dir alias' dir' h = record {
  rises = subst (λ (t : Text). IsBelow c.alias t) alias' (subst (λ (t : Text). IsBelow t b.alias) alias h.rises);
  apart = λ nest. h.apart (subst (λ (t : Text). Nest a.dir t) (sym dir') (subst (λ (t : Text). Nest t d.dir) (sym dir) nest));
}

pub stands_table : (root : Text) (rows now : List Row) (from : ℕ → ℕ) → IsTable root rows → Stands rows now from → IsTable root now
stands_table root rows now from table stands =
    let are = table.rows_are in
    record {
      some = stands.some;
      rows_are = record {
        most = (let most = are.most in let fewer = stands.fewer in omega arith);
        each = λ k lt. same_row (row_at rows (from k)) (row_at now k) (stands.alias_is k lt) (stands.dir_is k lt) (are.each (from k) (stands.inside k lt));
        first = λ some. (
          sym (stands.alias_is 0 some) ∙ (ap (λ n. (row_at rows n).alias) stands.root_first ∙ (are.first (let more = table.some in omega arith)).0),
          sym (stands.dir_is 0 some) ∙ (ap (λ n. (row_at rows n).dir) stands.root_first ∙ (are.first (let more = table.some in omega arith)).1),
        );
        before = λ i k lt inside.
            same_before (row_at rows (from i)) (row_at rows (from k)) (row_at now i) (row_at now k) (stands.alias_is i (omega arith)) (stands.dir_is i (omega arith))
            (stands.alias_is k inside) (stands.dir_is k inside) (are.before (from i) (from k) (stands.order i k lt) (stands.inside k inside));
      };
    }

pub rooted : (root : Text) (rows : List Row) → IsTable root rows → IsTable (root_of rows) rows
rooted root rows table = subst (λ (r : Text). IsTable r rows) (sym (table.rows_are.first (let some = table.some in omega arith)).1) table

pub with_git : (root : Text) (rows : List Row) (k : ℕ) (row : Row) → k < length rows → row.alias ≡ (row_at rows k).alias → row.dir ≡ (row_at rows k).dir → IsTable root rows → IsTable root (set rows k row)
with_git root rows k row lt alias dir table =
    stands_table root rows (set rows k row) (λ i. i) table (record {
      some = (let some = table.some in omega (arith, length-set rows k row));
      fewer = omega (arith, length-set rows k row);
      root_first = refl;
      inside = λ i inside. omega (arith, inside, length-set rows k row);
      order = λ i j before. before;
      alias_is = λ i inside. sym (kept (λ r. r.alias) alias i);
      dir_is = λ i inside. sym (kept (λ r. r.dir) dir i);
    })
  where
    kept : (f : Row → Text) → f row ≡ f (row_at rows k) → (i : ℕ) → f (row_at (set rows k row) i) ≡ f (row_at rows i)
    kept f same i = elim (sides i k) [
      | inl before ↦ ap f (get_or-set_other rows k i row no_row (λ e. absurd (omega (arith, e, before))))
      | inr (inl here) ↦ subst (λ n. f (row_at (set rows k row) n) ≡ f (row_at rows n)) (sym here) (ap f (get_or-set_same rows k row no_row lt) ∙ same)
      | inr (inr behind) ↦ ap f (get_or-set_other rows k i row no_row (λ e. absurd (omega (arith, e, behind))))
    ]

-- the place of a row before the k-th was taken out
abbrev past : ℕ → ℕ → ℕ
past k i = cond (ltb i k) i (i + 1)

past_below : (k i : ℕ) → i < k → past k i ≡ i
past_below k i lt = grind (arith, nat_tests)

past_above : (k i : ℕ) → k ≤ i → past k i ≡ i + 1
past_above k i le = grind (arith, nat_tests)

past_rises : (k i j : ℕ) → i < j → past k i < past k j
past_rises k i j lt = elim (le_or_lt k i) [
  | inl le ↦ omega (arith, past_above k i le, past_above k j (omega arith))
  | inr above ↦ elim (le_or_lt k j) [
    | inl le ↦ omega (arith, past_below k i above, past_above k j le)
    | inr high ↦ omega (arith, past_below k i above, past_below k j high)
  ]
]

past_inside : (k i n : ℕ) → i + 1 < n → past k i < n
past_inside k i n lt = elim (le_or_lt k i) [
  | inl le ↦ omega (arith, past_above k i le)
  | inr above ↦ omega (arith, past_below k i above)
]

taken : (rows : List Row) (k i : ℕ) → k < length rows → row_at rows (past k i) ≡ row_at (remove rows k) i
taken rows k i inside = elim (le_or_lt k i) [
  | inl le ↦ ap (row_at rows) (past_above k i le) ∙ sym (get_or-remove_above rows k no_row i le inside)
  | inr above ↦ ap (row_at rows) (past_below k i above) ∙ sym (get_or-remove_below rows k no_row i above inside)
]

pub without_row : (root : Text) (rows : List Row) (k : ℕ) → k < length rows → 0 < k → IsTable root rows → IsTable root (remove rows k)
without_row root rows k inside some table =
    let fewer : length (remove rows k) + 1 ≡ length rows = length-remove rows k inside in
    stands_table root rows (remove rows k) (past k) table (record {
      some = omega arith;
      fewer = omega arith;
      root_first = past_below k 0 some;
      inside = λ i lt. past_inside k i (length rows) (omega arith);
      order = past_rises k;
      alias_is = λ i lt. ap (λ (r : Row). r.alias) (taken rows k i inside);
      dir_is = λ i lt. ap (λ (r : Row). r.dir) (taken rows k i inside);
    })

-- a row with an alias that has bytes is not the first
pub not_root : (root : Text) (rows : List Row) (k : ℕ) → IsTable root rows → 0 < length (row_at rows k).alias → 0 < k
not_root root rows k table some = elim (le_or_lt k 0) [
  | inl none ↦ absurd (omega (arith, some, ap (λ n. length (row_at rows n).alias) {x = k} {y = 0} (omega arith), ap length (table.rows_are.first (let more = table.some in omega arith)).0))
  | inr above ↦ above
]

-- ---- a row that comes in

-- where a new row may come in
pub record Fits_in (rows : List Row) (row : Row) (at : ℕ) : Type 0 where
  pub good : IsRow row
  pub room : length rows < 64
  pub some : 0 < at
  pub inside : at ≤ length rows
  pub behind : (i : ℕ) → i < at → IsBefore (row_at rows i) row
  pub before : (i : ℕ) → at ≤ i → i < length rows → IsBefore row (row_at rows i)

pub with_row : (root : Text) (rows : List Row) (row : Row) (at : ℕ) → IsTable root rows → Fits_in rows row at → IsTable root (insert rows at row)
with_row root rows row at table fits =
    let are = table.rows_are in
    record {
      some = omega (arith, long);
      rows_are = record {
        most = (let room = fits.room in omega (arith, long));
        each = λ k lt. elim (sides k at) [
          | inl low ↦ subst IsRow (sym (lower k low)) (are.each k (let inside = fits.inside in omega arith))
          | inr (inl here) ↦ subst IsRow (sym (here_at k here)) fits.good
          | inr (inr high) ↦ subst IsRow (sym (upper k high)) (are.each (k - 1) (omega (arith, long)))
        ];
        first = λ _. (let some = fits.some in let inside = fits.inside in let root = are.first (omega arith) in
            (ap (λ (r : Row). r.alias) (lower 0 fits.some) ∙ root.0, ap (λ (r : Row). r.dir) (lower 0 fits.some) ∙ root.1));
        before = pairs;
      };
    }
  where
    long : length (insert rows at row) ≡ length rows + 1
    long = length-insert rows at row fits.inside

    lower : (k : ℕ) → k < at → row_at (insert rows at row) k ≡ row_at rows k
    lower k lt = get_or-insert_below rows at row no_row k lt fits.inside

    here_at : (k : ℕ) → k ≡ at → row_at (insert rows at row) k ≡ row
    here_at k e = ap (row_at (insert rows at row)) e ∙ get_or-insert_at rows at row no_row fits.inside

    upper : (k : ℕ) → at < k → row_at (insert rows at row) k ≡ row_at rows (k - 1)
    upper k lt = ap (row_at (insert rows at row)) {x = k} {y = k - 1 + 1} (omega arith) ∙ get_or-insert_above rows at row no_row (k - 1) (omega arith) fits.inside

    both : (i k : ℕ) (a b : Row) → row_at (insert rows at row) i ≡ a → row_at (insert rows at row) k ≡ b → IsBefore a b → IsBefore (row_at (insert rows at row) i) (row_at (insert rows at row) k)
    both i k a b e f h = subst (λ (r : Row). IsBefore r (row_at (insert rows at row) k)) (sym e) (subst (λ (r : Row). IsBefore a r) (sym f) h)

    pairs : (i k : ℕ) → i < k → k < length (insert rows at row) → IsBefore (row_at (insert rows at row) i) (row_at (insert rows at row) k)
    pairs i k lt inside = elim (sides k at) [
      | inl low ↦ both i k _ _ (lower i (omega arith)) (lower k low) (table.rows_are.before i k lt (let most = fits.inside in omega arith))
      | inr (inl here) ↦ both i k _ _ (lower i (omega arith)) (here_at k here) (fits.behind i (omega arith))
      | inr (inr high) ↦ elim (sides i at) [
        | inl low ↦ both i k _ _ (lower i low) (upper k high) (table.rows_are.before i (k - 1) (omega arith) (omega (arith, long)))
        | inr (inl here) ↦ both i k _ _ (here_at i here) (upper k high) (fits.before (k - 1) (omega arith) (omega (arith, long)))
        | inr (inr up) ↦ both i k _ _ (upper i up) (upper k high) (table.rows_are.before (i - 1) (k - 1) (omega arith) (omega (arith, long)))
      ]
    ]

pub nest_back : (a b : Text) → Nest a b → Nest b a
nest_back a b (inl p) = inr p
nest_back a b (inr p) = inl p

-- the place before the first row with a greater alias
pub fits_there : (root : Text) (rows : List Row) (row : Row) (at : ℕ) → IsTable root rows → IsRow row → length rows < 64 → LacksAlias rows row.alias → IsApart rows row.dir → at ≤ length rows
    → ((k : ℕ) → k < at → ¬ IsBelow row.alias (row_at rows k).alias) → (at < length rows → IsBelow row.alias (row_at rows at).alias) → Fits_in rows row at
fits_there root rows row at table good room other apart inside lower upper = record {
  good = good;
  room = room;
  some = elim (le_or_lt at 0) [
    | inl none ↦ absurd (not_below_nothing row.alias (subst (λ (t : Text). IsBelow row.alias t) (ap (λ n. (row_at rows n).alias) {x = at} {y = 0} (omega arith) ∙ (table.rows_are.first (let some = table.some in omega arith)).0)
        (upper (let some = table.some in omega arith))))
    | inr some ↦ some
  ];
  inside = inside;
  behind = λ i lt. record {
    rises = below_other row.alias (row_at rows i).alias (lower i lt) (λ e. other i (omega arith) (sym e));
    apart = apart i (omega arith);
  };
  before = λ i le lt. record {
    rises = elim (sides at i) [
      | inl low ↦ below_through row.alias (row_at rows at).alias (row_at rows i).alias (upper (omega arith)) (table.rows_are.before at i low lt).rises
      | inr (inl same) ↦ subst (λ n. IsBelow row.alias (row_at rows n).alias) same (upper (omega arith))
      | inr (inr high) ↦ absurd (omega arith)
    ];
    apart = λ nest. apart i lt (nest_back row.dir (row_at rows i).dir nest);
  };
}

-- ---- the first row of some kind

pub first_row : (r : Option ℕ) (Yes No : Row → Type 0) (rows : List Row) → MatchOption r (AllWithin No rows 0 (length rows)) (λ k. (k < length rows) × HoldsAt Yes rows k × AllWithin No rows 0 k)
    → MatchOption r ((k : ℕ) → k < length rows → No (row_at rows k)) (λ k. (k < length rows) × Yes (row_at rows k) × ((i : ℕ) → i < k → No (row_at rows i)))
first_row None Yes No rows h = λ k lt. h k no_row (omega arith) lt
first_row (Some k) Yes No rows h = (h.0, h.1 no_row, λ i lt. h.2 i no_row (omega arith) lt)

pub first_alias : (r : Option ℕ) (rows : List Row) (alias : Text) → MatchOption r (AllWithin (λ (row : Row). row.alias ≢ alias) rows 0 (length rows)) (λ k. (k < length rows) × HoldsAt (λ (row : Row). row.alias ≡ alias) rows k × AllWithin (λ (row : Row). row.alias ≢ alias) rows 0 k)
    → MatchOption r (LacksAlias rows alias) (HasAliasAt rows alias)
first_alias None rows alias h = first_row None (λ (row : Row). row.alias ≡ alias) (λ (row : Row). row.alias ≢ alias) rows h
first_alias (Some k) rows alias h = (h.0, h.1 no_row)

pub first_nest : (r : Option ℕ) (rows : List Row) (dir : Text) → MatchOption r (AllWithin (λ (row : Row). ¬ Nest row.dir dir) rows 0 (length rows)) (λ k. (k < length rows) × HoldsAt (λ (row : Row). Nest row.dir dir) rows k × AllWithin (λ (row : Row). ¬ Nest row.dir dir) rows 0 k)
    → MatchOption r (IsApart rows dir) (IsFirstNest rows dir)
first_nest None rows dir h = first_row None (λ (row : Row). Nest row.dir dir) (λ (row : Row). ¬ Nest row.dir dir) rows h
first_nest (Some k) rows dir h =
    let first = first_row (Some k) (λ (row : Row). Nest row.dir dir) (λ (row : Row). ¬ Nest row.dir dir) rows h in
    record { inside = first.0; nests = first.1; before = first.2 }

pub each_row : (P : Row → Type 0) (r : Bool) (rows : List Row) → MatchBool r (AllWithin P rows 0 (length rows)) ((k : ℕ) × (k < length rows) × HoldsAt (λ x. ¬ P x) rows k) → IsTrue r ↔ ((k : ℕ) → k < length rows → P (row_at rows k))
each_row P true rows m = (λ t k lt. m k no_row (omega arith) lt, λ a. refl)
each_row P false rows m = (λ t. absurd (cc), λ a. absurd (m.2 no_row (a m.0 m.1)))
