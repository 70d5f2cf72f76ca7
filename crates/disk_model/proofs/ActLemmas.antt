-- What acts make of a list of files, and one act more.
use Rattle.std.proofs.Common.{◌≡◌, inl, inr, ℕ, zero, suc, ◌≤◌, ◌<◌, Bool, true, false, not, T, cond, if◌then◌else◌, ◌&&◌, List, [], ◌∷◌, ◌++◌, length, get_or, take, drop, Option, None, Some, Vec, bytes_eq, refl, sym, ◌∙◌, ap, subst, arith}
use Rattle.std.specs.Ordering.{nat_cmp, is_eq, is_lt, eq_by_cmp}
use Rattle.std.specs.declared.cmp.Ordering.{Ordering}
use Rattle.std.specs.declared.cmp.Ordering.TheVariants.{Less, Equal, Greater}
use Rattle.std.specs.Cmp.Lexicographic.{slice_cmp, nat_list_cmp_total}
use Rattle.std.specs.FinMap.Entries.{find-put, find-where_key, is_sorted-put, is_sorted-where_key, below_all}
use Rattle.std.specs.FinMap.{nat_cmp-IsAntisymmetric, slice_cmp-IsAntisymmetric}
use Rattle.std.proofs.Math.Dec.{ltb}
use Rattle.std.proofs.Math.Path.{fun_ext}
use Rattle.std.proofs.lemmas.Bool.{false≢true, and_parts, and_from, lt-ltb, le-ltb, ltb-true}
use Rattle.std.proofs.lemmas.Map.Text.{is_eq-slice_cmp}
use Rattle.gopass_base.specs.Text.{Text}
use Rattle.disk_model.specs.Files.{Files, put, moved, moved_file}
use Rattle.disk_model.specs.Entries.{Entries, entry_of, entries_of, files_of, with_entry, without_entry, moved_to, is_rising}
use Rattle.disk_model.specs.Acts.{Act, Write, Rename, Remove, Sync, Log, before, made, files_after, entries_made, entries_after, Next, ImagesAfter}
use Rattle.disk_model.specs.Memory.{is_past}
use Rattle.disk_model.proofs.FileLemmas.{cases_path, same_path, other_path}

abbrev order : Text → Text → Ordering
order a b = slice_cmp nat_cmp a b

-- ---- the files of a list

turned : (p q : Text) → bytes_eq q p ≡ bytes_eq p q
turned p q = elim (cases_path p q) [
  | inl e ↦ subst (λ (r : Text). bytes_eq r p ≡ bytes_eq p r) e refl
  | inr apart ↦ other_path q p (λ e. apart (sym e)) ∙ sym (other_path p q apart)
]

with_files : (path bytes : Text) (es : Entries) → files_of (with_entry path bytes es) ≡ put (files_of es) path (Some bytes)
unfolding put
with_files path bytes es = fun_ext λ q.
    find-put (slice_cmp nat_cmp) nat_list_cmp_total q path bytes es
    ∙ ap (λ b. cond b (Some bytes) (files_of es q)) (is_eq-slice_cmp q path ∙ turned path q)

gone_if : (b : Bool) (x : Option Text) → cond (not b) x None ≡ (if b then None else x)
gone_if true x = refl
gone_if false x = refl

without_files : (path : Text) (es : Entries) → files_of (without_entry path es) ≡ put (files_of es) path None
unfolding put
without_files path es = fun_ext λ q.
    find-where_key (slice_cmp nat_cmp) (λ k. not (eq_by_cmp (slice_cmp nat_cmp) path k)) q
    (λ x tie. ap (λ (k : Text). not (eq_by_cmp (slice_cmp nat_cmp) path k)) (sym (slice_cmp-IsAntisymmetric nat_cmp-IsAntisymmetric q x tie))) es
    ∙ gone_if (eq_by_cmp (slice_cmp nat_cmp) path q) (files_of es q)
    ∙ ap (λ b. if b then None else files_of es q) (is_eq-slice_cmp path q)

moved_to_files : (file : Option Text) (from to : Text) (es : Entries) → files_of (moved_to file from to es) ≡ moved_file file from to (files_of es)
moved_to_files None from to es = refl
moved_to_files (Some bytes) from to es = with_files to bytes (without_entry from es) ∙ ap (λ (f : Files). put f to (Some bytes)) (without_files from es)

pub made_files : (e : Act) (es : Entries) → files_of (entries_made e es) ≡ made e (files_of es)
unfolding moved
made_files (Write path bytes) es = with_files path bytes es
made_files (Rename from to) es = moved_to_files (files_of es from) from to es
made_files (Remove path) es = without_files path es
made_files Sync es = refl

pub after_files : (acts : List Act) (es : Entries) → files_of (entries_after acts es) ≡ files_after acts (files_of es)
after_files [] es = refl
after_files (e ∷ acts) es = after_files acts (entries_made e es) ∙ ap (files_after acts) (made_files e es)

-- ---- they stay in rising order

test_of : (b : Bool) → b ≡ true → T b
test_of b e = subst T (sym e) tt

is_true : (b : Bool) → T b → b ≡ true
is_true true t = refl
is_true false t = absurd t

with_rises : (path bytes : Text) (es : Entries) → is_rising es ≡ true → is_rising (with_entry path bytes es) ≡ true
with_rises path bytes es up = is_true (is_rising (with_entry path bytes es)) (is_sorted-put (slice_cmp nat_cmp) nat_list_cmp_total path bytes es (test_of (is_rising es) up))

without_rises : (path : Text) (es : Entries) → is_rising es ≡ true → is_rising (without_entry path es) ≡ true
without_rises path es up = is_true (is_rising (without_entry path es)) (is_sorted-where_key (slice_cmp nat_cmp) (λ k. not (eq_by_cmp (slice_cmp nat_cmp) path k)) es (test_of (is_rising es) up))

moved_rises : (file : Option Text) (from to : Text) (es : Entries) → is_rising es ≡ true → is_rising (moved_to file from to es) ≡ true
moved_rises None from to es up = up
moved_rises (Some bytes) from to es up = with_rises to bytes (without_entry from es) (without_rises from es up)

pub made_rises : (e : Act) (es : Entries) → is_rising es ≡ true → is_rising (entries_made e es) ≡ true
made_rises (Write path bytes) es up = with_rises path bytes es up
made_rises (Rename from to) es up = moved_rises (files_of es from) from to es up
made_rises (Remove path) es up = without_rises path es up
made_rises Sync es up = up

-- ---- the file of a path is taken out

pub none_taken : (path : Text) (es : Entries) → files_of es path ≡ None → without_entry path es ≡ es
none_taken path [] none = refl
none_taken path (e ∷ es) none = elim (eq_by_cmp (slice_cmp nat_cmp) path e.0) as (λ b. cond b (Some e.1) (files_of es path) ≡ None → cond (not b) (e ∷ without_entry path es) (without_entry path es) ≡ e ∷ es) [
  | true ↦ λ some. absurd (cc)
  | false ↦ λ none. ap (λ (fs : Entries). e ∷ fs) (none_taken path es none)
] none

first_of : (a b : Bool) → T (a && b) → T a
first_of true b p = tt
first_of false b p = p

second_of : (a b : Bool) → T (a && b) → T b
second_of true b p = p
second_of false b p = absurd p

less_is : (o : Ordering) → T (is_lt o) → is_eq o ≡ false
less_is Less p = refl
less_is Equal p = absurd p
less_is Greater p = absurd p

-- none that lies above the path has it
above_stay : (path : Text) (es : Entries) → T (below_all (slice_cmp nat_cmp) path es) → without_entry path es ≡ es
above_stay path [] h = refl
above_stay path (e ∷ es) h =
    ap (λ b. cond (not b) (e ∷ without_entry path es) (without_entry path es)) (less_is (order path e.0) (first_of (is_lt (order path e.0)) (below_all (slice_cmp nat_cmp) path es) h))
    ∙ ap (λ (fs : Entries). e ∷ fs) (above_stay path es (second_of (is_lt (order path e.0)) (below_all (slice_cmp nat_cmp) path es) h))

-- what lies below a path has another one
other_below : (path x : Text) → T (is_lt (order x path)) → eq_by_cmp (slice_cmp nat_cmp) path x ≡ false
other_below path x less = is_eq-slice_cmp path x ∙ other_path path x (λ same. false≢true (sym (subst (λ (p : Text). is_eq (order x p) ≡ false) same (less_is (order x path) less)) ∙ (is_eq-slice_cmp x x ∙ same_path x)))

module _ {A : Type 0} where
  below_at : (x : Text) (files : List (Text × Vec ℕ A)) (i : ℕ) (d : Text × Vec ℕ A) → T (below_all (slice_cmp nat_cmp) x (entries_of files)) → i < length files → T (is_lt (order x (get_or files i d).0))
  below_at x [] i d h lt = absurd (omega arith)
  below_at x (f ∷ files) zero d h lt = first_of (is_lt (order x f.0)) (below_all (slice_cmp nat_cmp) x (entries_of files)) h
  below_at x (f ∷ files) (suc i) d h lt = below_at x files i d (second_of (is_lt (order x f.0)) (below_all (slice_cmp nat_cmp) x (entries_of files)) h) (omega arith)

  pub taken_out : (path : Text) (files : List (Text × Vec ℕ A)) (i : ℕ) → is_rising (entries_of files) ≡ true → i < length files → ((d : Text × Vec ℕ A) → (get_or files i d).0 ≡ path)
      → entries_of (take i files ++ drop (suc i) files) ≡ without_entry path (entries_of files)
  taken_out path [] i up lt same = absurd (omega arith)
  taken_out path (f ∷ files) zero up lt same =
      let above : T (below_all (slice_cmp nat_cmp) path (entries_of files)) = subst (λ (p : Text). T (below_all (slice_cmp nat_cmp) p (entries_of files))) (same f) (first_of (below_all (slice_cmp nat_cmp) f.0 (entries_of files)) (is_rising (entries_of files)) (test_of _ up)) in
      sym (above_stay path (entries_of files) above)
      ∙ ap (λ b. cond (not b) (entry_of f ∷ without_entry path (entries_of files)) (without_entry path (entries_of files))) (sym (is_eq-slice_cmp path f.0 ∙ (ap (bytes_eq path) (same f) ∙ same_path path)))
  taken_out path (f ∷ files) (suc i) up lt same =
      let tests = test_of (is_rising (entries_of (f ∷ files))) up in
      let less : T (is_lt (order f.0 path)) = subst (λ (p : Text). T (is_lt (order f.0 p))) (same f) (below_at f.0 files i f (first_of (below_all (slice_cmp nat_cmp) f.0 (entries_of files)) (is_rising (entries_of files)) tests) (omega arith)) in
      ap (λ (fs : Entries). entry_of f ∷ fs) (taken_out path files i (is_true (is_rising (entries_of files)) (second_of (below_all (slice_cmp nat_cmp) f.0 (entries_of files)) (is_rising (entries_of files)) tests)) (omega arith) same)
      ∙ ap (λ b. cond (not b) (entry_of f ∷ without_entry path (entries_of files)) (without_entry path (entries_of files))) (sym (other_below path f.0 less))

-- ---- one act more

pub files_push : (es : List Act) (e : Act) (f : Files) → files_after (es ++ e ∷ []) f ≡ made e (files_after es f)
files_push [] e f = refl
files_push (d ∷ es) e f = files_push es e (made d f)

pub entries_push : (es : List Act) (e : Act) (f : Entries) → entries_after (es ++ e ∷ []) f ≡ entries_made e (entries_after es f)
entries_push [] e f = refl
entries_push (d ∷ es) e f = entries_push es e (entries_made d f)

pub images_push : (es : List Act) (e : Act) (f : Files) (I : Files → Type 0) → ImagesAfter (es ++ e ∷ []) f I ≡ Next e (files_after es f) (ImagesAfter es f I)
images_push [] e f I = refl
images_push (d ∷ es) e f I = images_push es e (made d f) (Next d f I)

-- the act of a later call is not among those of the first k
pub before_same : (k n : ℕ) (log : Log) (e : Act) → k ≤ n → before k (log ++ (n, e) ∷ []) ≡ before k log
before_same k n [] e le = ap (λ b. if b then e ∷ [] else []) (le-ltb n k le)
before_same k n (d ∷ log) e le = ap (λ (es : List Act). if ltb d.0 k then d.1 ∷ es else es) (before_same k n log e le)

pub before_more : (k n : ℕ) (log : Log) (e : Act) → n < k → before k (log ++ (n, e) ∷ []) ≡ before k log ++ e ∷ []
before_more k n [] e lt = ap (λ b. if b then e ∷ [] else []) (lt-ltb n k lt)
before_more k n (d ∷ log) e lt = elim (ltb d.0 k) as (λ b. (if b then d.1 ∷ before k (log ++ (n, e) ∷ []) else before k (log ++ (n, e) ∷ [])) ≡ (if b then d.1 ∷ before k log else before k log) ++ e ∷ []) [
  | true ↦ ap (λ (es : List Act). d.1 ∷ es) (before_more k n log e lt)
  | false ↦ before_more k n log e lt
]

pub past_later : (k n : ℕ) (log : Log) → n ≤ k → is_past n log ≡ true → is_past k log ≡ true
past_later k n [] le h = refl
past_later k n (d ∷ log) le h =
    let tests = and_parts (ltb d.0 n) (is_past n log) h in
    let lt : d.0 < n = ltb-true d.0 n tests.0 in
    and_from (ltb d.0 k) (is_past k log) (lt-ltb d.0 k (omega (arith, lt))) (past_later k n log le tests.1)

pub past_push : (k n : ℕ) (log : Log) (e : Act) → n < k → is_past k log ≡ true → is_past k (log ++ (n, e) ∷ []) ≡ true
past_push k n [] e lt h = and_from (ltb n k) true (lt-ltb n k lt) refl
past_push k n (d ∷ log) e lt h =
    let tests = and_parts (ltb d.0 k) (is_past k log) h in
    and_from (ltb d.0 k) (is_past k (log ++ (n, e) ∷ [])) tests.0 (past_push k n log e lt tests.1)

-- the first n calls did all of it
pub past_before : (k n : ℕ) (log : Log) → n ≤ k → is_past n log ≡ true → before k log ≡ before n log
past_before k n [] le h = refl
past_before k n (d ∷ log) le h =
    let tests = and_parts (ltb d.0 n) (is_past n log) h in
    let lt : d.0 < n = ltb-true d.0 n tests.0 in
    let here : ltb d.0 k ≡ ltb d.0 n = lt-ltb d.0 k (omega (arith, lt)) ∙ sym tests.0 in
    let rest : before k log ≡ before n log = past_before k n log le tests.1 in
    λ i. if here i then d.1 ∷ rest i else rest i
