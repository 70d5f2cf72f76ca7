-- The words of a table, and the meaning of a word.
use Rattle.std.specs.Prelude.{ℕ, zero, suc, Bool, true, ◌&&◌, List, [], ◌∷◌, Option, None, Some, bytes_eq, if◌then◌else◌}
use Rattle.std.specs.Ordering.{is_lt, nat_cmp}
use Rattle.std.specs.Cmp.Lexicographic.{slice_cmp}
use Rattle.audit_rules.specs.declared.word_table.WordRow.{WordRow}

-- a byte before others, and nothing where it is zero and the last
abbrev pub before : ℕ → List ℕ → List ℕ
before zero [] = []
before (suc b) [] = suc b ∷ []
before b (next ∷ bytes) = b ∷ next ∷ bytes

-- bytes without the zero bytes at their end
abbrev pub without_zeros : List ℕ → List ℕ
without_zeros [] = []
without_zeros (b ∷ bytes) = before b (without_zeros bytes)

-- the word of a row
abbrev pub word_of : {M : Type 0} → WordRow M → List ℕ
word_of row = without_zeros row.word

-- each word is below the next by its bytes
abbrev pub rises : {M : Type 0} → List (WordRow M) → Bool
rises [] = true
rises (row ∷ []) = true
rises (row ∷ next ∷ rows) = is_lt (slice_cmp nat_cmp (word_of row) (word_of next)) && rises (next ∷ rows)

-- the meaning of the row with this word
unfoldable pub meaning_at : {M : Type 0} → List (WordRow M) → List ℕ → Option M
meaning_at [] word = None
meaning_at (row ∷ rows) word = if bytes_eq (word_of row) word then Some row.means else meaning_at rows word
