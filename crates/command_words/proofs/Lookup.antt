-- A table of the code and a table of the definition give the same.
use Rattle.std.proofs.Common.{◌≡◌, List, [], ◌∷◌, map, Some, bytes_eq, if◌then◌else◌, refl}
use Rattle.gopass_base.specs.Text.{Text}
use Rattle.audit_rules.specs.declared.word_table.WordRow.{WordRow}
use Rattle.audit_rules.specs.Words.{meaning_at, word_of}
use Rattle.command_words.specs.Lookup.{Meant, meaning_of}

module _ {X : Type 0} where
  -- row by row the words and their meanings are the same
  pub record Agree (rows : List (WordRow X)) (names : List (Meant X)) : Type 0 where
    pub words : map word_of rows ≡ map (λ (m : Meant X). m.word) names
    pub meanings : map (λ (row : WordRow X). row.means) rows ≡ map (λ (m : Meant X). m.meaning) names

  pub same : (rows : List (WordRow X)) (names : List (Meant X)) (word : Text) → Agree rows names → meaning_at rows word ≡ meaning_of names word
  unfolding meaning_at
  same [] [] word agree = refl
  same [] (m ∷ names) word agree = let words = agree.words in absurd (cc)
  same (row ∷ rows) [] word agree = let words = agree.words in absurd (cc)
  same (row ∷ rows) (m ∷ names) word agree =
      let words = agree.words in
      let meanings = agree.meanings in
      let word_is : word_of row ≡ m.word = cc in
      let meaning_is : row.means ≡ m.meaning = cc in
      let rest : meaning_at rows word ≡ meaning_of names word = same rows names word (record { words = cc; meanings = cc }) in
      λ i. if bytes_eq (word_is i) word then Some (meaning_is i) else rest i
