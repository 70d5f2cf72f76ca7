-- A search by halves in a table whose words rise.
use Rattle.std.proofs.Common.{◌≡◌, ℕ, zero, suc, ◌+◌, ◌<◌, inl, inr, Bool, true, false, ◌&&◌, List, [], ◌∷◌, length, get_or, Some, None, Result, Ok, Err, bytes_eq, if◌then◌else◌, refl, sym, ap, subst, ◌∙◌, arith}
use Rattle.std.specs.declared.cmp.Ordering.{Ordering}
use Rattle.std.specs.declared.cmp.Ordering.TheVariants.{Less, Equal, Greater}
use Rattle.std.specs.Ordering.{is_lt, is_eq, nat_cmp, ordering_reverse}
use Rattle.std.specs.Cmp.Lexicographic.{slice_cmp}
use Rattle.std.specs.List.Sorted.{IsSortedBy, IsBinarySearchResult}
use Rattle.std.proofs.lemmas.Bool.{cases_lt}
use Rattle.std.proofs.lemmas.Cmp.{nat_list_cmp_total}
use Rattle.std.proofs.lemmas.Map.Text.{is_eq-slice_cmp}
use Rattle.std.proofs.lemmas.Slice.Eq.{bytes_eq-Decides}
use Rattle.std.proofs.lemmas.List.Sorted.{searchable_from_sorted}
use Rattle.audit_rules.specs.declared.word_table.WordRow.{WordRow}
use Rattle.audit_rules.specs.Words.{meaning_at, rises, word_of}

abbrev pub order : List ℕ → List ℕ → Ordering
order = slice_cmp nat_cmp

less : (o : Ordering) (b : Bool) → is_lt o && b ≡ true → (o ≡ Less) × (b ≡ true)
less Less b e = (refl, e)
less Equal b e = absurd (cc)
less Greater b e = absurd (cc)

below_later : {M : Type 0} → (row : WordRow M) (rows : List (WordRow M)) → rises (row ∷ rows) ≡ true → (k : ℕ) (d : WordRow M) → k < length rows → order (word_of row) (word_of (get_or rows k d)) ≡ Less
below_later row [] up k d lt = absurd (omega arith)
below_later row (next ∷ rows) up zero d lt = (less (order (word_of row) (word_of next)) (rises (next ∷ rows)) up).0
below_later row (next ∷ rows) up (suc k) d lt = nat_list_cmp_total.trans (word_of row) (word_of next) (word_of (get_or rows k d)) (less (order (word_of row) (word_of next)) (rises (next ∷ rows)) up).0 (below_later next rows (less (order (word_of row) (word_of next)) (rises (next ∷ rows)) up).1 k d (omega arith))

rest_rises : {M : Type 0} → (row : WordRow M) (rows : List (WordRow M)) → rises (row ∷ rows) ≡ true → rises rows ≡ true
rest_rises row [] up = refl
rest_rises row (next ∷ rows) up = (less (order (word_of row) (word_of next)) (rises (next ∷ rows)) up).1

adjacent : {M : Type 0} → (rows : List (WordRow M)) → rises rows ≡ true → (k : ℕ) (d : WordRow M) → suc k < length rows → order (word_of (get_or rows k d)) (word_of (get_or rows (suc k) d)) ≡ Less
adjacent [] up k d lt = absurd (omega arith)
adjacent (row ∷ rows) up zero d lt = below_later row rows up 0 d (omega arith)
adjacent (row ∷ rows) up (suc k) d lt = adjacent rows (rest_rises row rows up) k d (omega arith)

sorted : {M : Type 0} → (rows : List (WordRow M)) → rises rows ≡ true → IsSortedBy (λ a b. is_lt (order (word_of a) (word_of b))) rows
sorted rows up k d low lt =
    let next : k + 1 ≡ suc k = omega arith in
    ap (λ n. is_lt (order (word_of (get_or rows n d)) (word_of (get_or rows k d)))) next
    ∙ ap is_lt (nat_list_cmp_total.antisymm (word_of (get_or rows (suc k) d)) (word_of (get_or rows k d)) ∙ ap ordering_reverse (adjacent rows up k d (omega arith)))

same_word : (x y : List ℕ) → order x y ≡ Equal → bytes_eq x y ≡ true
same_word x y e = sym (is_eq-slice_cmp x y) ∙ ap is_eq e

other_word : (x y : List ℕ) (o : Ordering) → is_eq o ≡ false → order x y ≡ o → bytes_eq x y ≡ false
other_word x y o differs e = sym (is_eq-slice_cmp x y) ∙ ap is_eq e ∙ differs

at_first : {M : Type 0} → (row : WordRow M) (rows : List (WordRow M)) (word : List ℕ) → bytes_eq (word_of row) word ≡ true → meaning_at (row ∷ rows) word ≡ Some row.means
unfolding meaning_at
at_first row rows word e = ap (λ b. if b then Some row.means else meaning_at rows word) e

behind_first : {M : Type 0} → (row : WordRow M) (rows : List (WordRow M)) (word : List ℕ) → bytes_eq (word_of row) word ≡ false → meaning_at (row ∷ rows) word ≡ meaning_at rows word
unfolding meaning_at
behind_first row rows word e = ap (λ b. if b then Some row.means else meaning_at rows word) e

found : {M : Type 0} → (rows : List (WordRow M)) (word : List ℕ) → rises rows ≡ true → (k : ℕ) (d : WordRow M) → k < length rows → order (word_of (get_or rows k d)) word ≡ Equal → meaning_at rows word ≡ Some (get_or rows k d).means
found [] word up k d lt e = absurd (omega arith)
found (row ∷ rows) word up zero d lt e = at_first row rows word (same_word (word_of row) word e)
found (row ∷ rows) word up (suc k) d lt e =
    let word_is : word_of (get_or rows k d) ≡ word = (bytes_eq-Decides (word_of (get_or rows k d)) word).0 (same_word (word_of (get_or rows k d)) word e) in
    let below : order (word_of row) word ≡ Less = subst (λ w. order (word_of row) w ≡ Less) word_is (below_later row rows up k d (omega arith)) in
    behind_first row rows word (other_word (word_of row) word Less refl below) ∙ found rows word (rest_rises row rows up) k d (omega arith) e

absent : {M : Type 0} → (rows : List (WordRow M)) (word : List ℕ) → ((k : ℕ) (d : WordRow M) → k < length rows → bytes_eq (word_of (get_or rows k d)) word ≡ false) → meaning_at rows word ≡ None
unfolding meaning_at
absent [] word others = refl
absent (row ∷ rows) word others = behind_first row rows word (others 0 row (omega arith)) ∙ absent rows word (λ k d lt. others (suc k) d (omega arith))

pub found_at : {M : Type 0} → (rows : List (WordRow M)) (word : List ℕ) (r : Result ℕ ℕ) → rises rows ≡ true → IsBinarySearchResult (λ row. order (word_of row) word) rows r → (k : ℕ) (d : WordRow M) → r ≡ Ok k → k < length rows → meaning_at rows word ≡ Some (get_or rows k d).means
found_at rows word (Ok i) up searched k d is lt =
    let same : i ≡ k = cc in
    found rows word up k d lt (subst (λ n. order (word_of (get_or rows n d)) word ≡ Equal) same (searched d))
found_at rows word (Err i) up searched k d is lt = absurd (cc)

pub found_nowhere : {M : Type 0} → (rows : List (WordRow M)) (word : List ℕ) (r : Result ℕ ℕ) → rises rows ≡ true → IsBinarySearchResult (λ row. order (word_of row) word) rows r → (k : ℕ) → r ≡ Err k → meaning_at rows word ≡ None
found_nowhere rows word (Ok i) up searched k is = absurd (cc)
found_nowhere rows word (Err i) up searched k is =
    let parts = searched (searchable_from_sorted nat_list_cmp_total word_of rows word (sorted rows up)) in
    absent rows word (λ k d lt. elim (cases_lt k i) [
      | inl below ↦ other_word (word_of (get_or rows k d)) word Less refl (parts.0 k d (omega arith) below)
      | inr above ↦ other_word (word_of (get_or rows k d)) word Greater refl (parts.1 k d above lt)
    ])
