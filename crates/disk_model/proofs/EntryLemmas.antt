-- A file is put in its place.
use Rattle.std.proofs.Common.{◌≡◌, ◌≢◌, ℕ, zero, suc, ◌+◌, Bool, true, false, T, cond, Some, ◌≤◌, ◌<◌, List, [], ◌∷◌, ◌++◌, length, get_or, set, take, drop, Vec, refl, sym, ap, subst, ◌∙◌, arith}
use Rattle.std.specs.Ordering.{nat_cmp, is_eq, eq_by_cmp}
use Rattle.std.specs.declared.cmp.Ordering.{Ordering}
use Rattle.std.specs.declared.cmp.Ordering.TheVariants.{Less, Equal, Greater}
use Rattle.std.specs.Cmp.{tied_itself}
use Rattle.std.specs.Cmp.Lexicographic.{slice_cmp, nat_list_cmp_total}
use Rattle.std.specs.FinMap.Entries.{by_order, find-put, is_sorted-put}
use Rattle.std.specs.FinMap.{nat_cmp-IsAntisymmetric, slice_cmp-IsAntisymmetric}
use Rattle.std.proofs.lemmas.List.{map_push, take_more}
use Rattle.gopass_base.specs.Text.{Text}
use Rattle.disk_model.specs.Entries.{Entries, entry_of, entries_of, files_of, with_entry, is_rising}

abbrev order : Text → Text → Ordering
order a b = slice_cmp nat_cmp a b

same_path : (a b : Text) → order a b ≡ Equal → a ≡ b
same_path a b e = slice_cmp-IsAntisymmetric nat_cmp-IsAntisymmetric a b e

tied : (a b : Text) → a ≡ b → order a b ≡ Equal
tied a b e = subst (λ t. order a t ≡ Equal) e (tied_itself nat_list_cmp_total a)

module _ {A : Type 0} (path : Text) (bytes : Vec ℕ A) where
  -- the first n files lie before the path, and the next one does not
  pub record IsPlace (files : List (Text × Vec ℕ A)) (n : ℕ) : Type 0 where
    pub within : n ≤ length files
    pub before : (k : ℕ) (d : Text × Vec ℕ A) → k < n → order path (get_or files k d).0 ≡ Greater
    pub here : (d : Text × Vec ℕ A) → n < length files → order path (get_or files n d).0 ≢ Greater

  later : (f : Text × Vec ℕ A) (files : List (Text × Vec ℕ A)) (n : ℕ) → IsPlace (f ∷ files) (suc n) → IsPlace files n
  later f files n p = record {
    within = (let w = p.within in omega arith);
    before = λ k d lt. p.before (suc k) d (omega arith);
    here = λ d lt. p.here d (omega arith);
  }

  turn : (f : Text × Vec ℕ A) (files : List (Text × Vec ℕ A)) (r : Ordering) → order path f.0 ≡ r
      → with_entry path bytes.items (entries_of (f ∷ files))
      ≡ by_order r ((path, bytes.items) ∷ entries_of (f ∷ files)) ((f.0, bytes.items) ∷ entries_of files) (entry_of f ∷ with_entry path bytes.items (entries_of files))
  turn f files r e = ap (λ r. by_order r ((path, bytes.items) ∷ entries_of (f ∷ files)) ((f.0, bytes.items) ∷ entries_of files) (entry_of f ∷ with_entry path bytes.items (entries_of files))) e

  behind : (f : Text × Vec ℕ A) (files : List (Text × Vec ℕ A)) → order path f.0 ≡ Greater → with_entry path bytes.items (entries_of (f ∷ files)) ≡ entry_of f ∷ with_entry path bytes.items (entries_of files)
  behind f files e = turn f files Greater e

  -- no file has the path
  pub put_new : (files : List (Text × Vec ℕ A)) (n : ℕ) → IsPlace files n → ((d : Text × Vec ℕ A) → n < length files → (get_or files n d).0 ≢ path)
      → entries_of (take n files ++ (path, bytes) ∷ drop n files) ≡ with_entry path bytes.items (entries_of files)
  put_new [] zero p other = refl
  put_new [] (suc n) p other = absurd (let w = p.within in omega arith)
  put_new (f ∷ files) zero p other = at (order path f.0) refl
    where
      at : (r : Ordering) → order path f.0 ≡ r → entries_of ((path, bytes) ∷ f ∷ files) ≡ with_entry path bytes.items (entries_of (f ∷ files))
      at Less e = sym (turn f files Less e)
      at Equal e = absurd (other f (omega arith) (sym (same_path path f.0 e)))
      at Greater e = absurd (p.here f (omega arith) e)
  put_new (f ∷ files) (suc n) p other =
      ap (λ es. entry_of f ∷ es) (put_new files n (later f files n p) (λ d lt. other d (omega arith)))
      ∙ sym (behind f files (p.before 0 f (omega arith)))

  -- the file at the place has it
  pub put_over : (files : List (Text × Vec ℕ A)) (n : ℕ) → IsPlace files n → n < length files → ((d : Text × Vec ℕ A) → (get_or files n d).0 ≡ path)
      → entries_of (set files n (path, bytes)) ≡ with_entry path bytes.items (entries_of files)
  put_over [] n p lt same = absurd (omega arith)
  put_over (f ∷ files) zero p lt same =
      ap (λ t. (t, bytes.items) ∷ entries_of files) (sym (same f)) ∙ sym (turn f files Equal (tied path f.0 (sym (same f))))
  put_over (f ∷ files) (suc n) p lt same =
      ap (λ es. entry_of f ∷ es) (put_over files n (later f files n p) (omega arith) (λ d. same d))
      ∙ sym (behind f files (p.before 0 f (omega arith)))

module _ {A : Type 0} (path : Text) where
  -- the first file of the rest has the path
  pub found_at : (files : List (Text × Vec ℕ A)) (i : ℕ) (e d : Text × Vec ℕ A) → i < length files → (get_or files i e).0 ≡ path
      → files_of (entries_of (drop i files)) path ≡ Some (get_or files i d).1.items
  found_at [] i e d lt same = absurd (omega arith)
  found_at (f ∷ files) zero e d lt same = ap (λ r. cond (is_eq r) (Some f.1.items) (files_of (entries_of files) path)) (tied path f.0 (sym same))
  found_at (f ∷ files) (suc i) e d lt same = found_at files i e d (omega arith) same

  -- it has another path
  pub missed_at : (files : List (Text × Vec ℕ A)) (i : ℕ) (d : Text × Vec ℕ A) → i < length files → (get_or files i d).0 ≢ path
      → files_of (entries_of (drop i files)) path ≡ files_of (entries_of (drop (i + 1) files)) path
  missed_at [] i d lt other = absurd (omega arith)
  missed_at (f ∷ files) zero d lt other = by_order_of (order path f.0) refl
    where
      by_order_of : (r : Ordering) → order path f.0 ≡ r → files_of (entries_of (f ∷ files)) path ≡ files_of (entries_of files) path
      by_order_of Less e = ap (λ r. cond (is_eq r) (Some f.1.items) (files_of (entries_of files) path)) e
      by_order_of Equal e = absurd (other (sym (same_path path f.0 e)))
      by_order_of Greater e = ap (λ r. cond (is_eq r) (Some f.1.items) (files_of (entries_of files) path)) e
  missed_at (f ∷ files) (suc i) d lt other =
      missed_at files i d (omega arith) other
      ∙ ap (λ n. files_of (entries_of (drop n (f ∷ files))) path) {x = suc (i + 1)} {y = suc i + 1} (omega arith)

-- one file more, put in its place and in front
pub files_more : {A : Type 0} (path : Text) (bytes : Vec ℕ A) (grown sorted : Entries) (done : List (Text × Vec ℕ A)) → grown ≡ with_entry path bytes.items sorted
    → ((q : Text) → files_of sorted q ≡ files_of (entries_of done) q) → (q : Text) → files_of grown q ≡ files_of (entries_of ((path, bytes) ∷ done)) q
files_more path bytes grown sorted done grew same q =
    ap (λ es. files_of es q) grew ∙ find-put (slice_cmp nat_cmp) nat_list_cmp_total q path bytes.items sorted ∙ ap (cond (eq_by_cmp (slice_cmp nat_cmp) q path) (Some bytes.items)) (same q)

-- one copy more
pub copied_more : {A B : Type 0} (files : List (Text × Vec ℕ A)) (copies new : List (Text × Vec ℕ B)) (i : ℕ) (file : Text × Vec ℕ A) (copy : Text × Vec ℕ B) → i < length files → file ≡ get_or files i file
    → entry_of copy ≡ entry_of file → entries_of copies ≡ entries_of (take i files) → new ≡ copies ++ copy ∷ [] → entries_of new ≡ entries_of (take (i + 1) files)
copied_more files copies new i file copy lt is same so_far grew =
    ap entries_of grew ∙ map_push entry_of copies copy ∙ (λ k. so_far k ++ same k ∷ [])
    ∙ sym (ap entries_of (take_more files i file lt ∙ ap (λ f. take i files ++ f ∷ []) (sym is)) ∙ map_push entry_of (take i files) file)

test_of : (b : Bool) → b ≡ true → T b
test_of b e = subst T (sym e) tt

is_true : (b : Bool) → T b → b ≡ true
is_true true t = refl
is_true false t = absurd t

pub rising_more : (path bytes : Text) (grown sorted : Entries) → grown ≡ with_entry path bytes sorted → is_rising sorted ≡ true → is_rising grown ≡ true
rising_more path bytes grown sorted grew rising =
    ap is_rising grew ∙ is_true (is_rising (with_entry path bytes sorted)) (is_sorted-put (slice_cmp nat_cmp) nat_list_cmp_total path bytes sorted (test_of (is_rising sorted) rising))
