-- Entries up to one, that one, and those behind it.
use Rattle.std.proofs.Common.{◌≡◌, ℕ, ◌+◌, ◌<◌, List, [], ◌∷◌, ◌++◌, length, take, drop, get_or, ap, sym, ◌∙◌}
use Rattle.std.specs.Prelude.{map}
use Rattle.std.proofs.lemmas.List.{append_assoc, drop_more, map-append, take-append-drop, take_more}
use Rattle.store_core.specs.Edit.{Entry}

module _ {A : Type 0} (entry : A → Entry) (items : List A) (i : ℕ) (item : A) (lt : i < length items) (is : item ≡ get_or items i item) where
  -- the first entries, with one more
  pub next_of : map entry (take (i + 1) items) ≡ map entry (take i items) ++ entry item ∷ []
  next_of = ap (map entry) (take_more items i item lt ∙ ap (λ x. take i items ++ x ∷ []) (sym is)) ∙ map-append entry (take i items) (item ∷ [])

  -- all entries, about this one
  pub about : map entry items ≡ map entry (take i items) ++ entry item ∷ map entry (drop (i + 1) items)
  about = ap (map entry) (sym (take-append-drop i items)) ∙ (map-append entry (take i items) (drop i items)
      ∙ ap (λ (l : List A). map entry (take i items) ++ map entry l) (drop_more items i item lt ∙ ap (λ x. x ∷ drop (i + 1) items) (sym is)))

  -- the same behind others, and before others
  pub next_behind : (before : List Entry) → before ++ map entry (take (i + 1) items) ≡ (before ++ map entry (take i items)) ++ entry item ∷ []
  next_behind before = ap (λ l. before ++ l) next_of ∙ sym (append_assoc before (map entry (take i items)) (entry item ∷ []))

  pub next_last : (before middle : List Entry) → before ++ (middle ++ map entry (take (i + 1) items)) ≡ (before ++ (middle ++ map entry (take i items))) ++ entry item ∷ []
  next_last before middle = ap (λ l. before ++ l) (next_behind middle) ∙ sym (append_assoc before (middle ++ map entry (take i items)) (entry item ∷ []))

  pub about_first : (rest : List Entry) → map entry items ++ rest ≡ map entry (take i items) ++ entry item ∷ (map entry (drop (i + 1) items) ++ rest)
  about_first rest = ap (λ l. l ++ rest) about ∙ append_assoc (map entry (take i items)) (entry item ∷ map entry (drop (i + 1) items)) rest

  pub about_behind : (before rest : List Entry) → before ++ (map entry items ++ rest) ≡ (before ++ map entry (take i items)) ++ entry item ∷ (map entry (drop (i + 1) items) ++ rest)
  about_behind before rest = ap (λ l. before ++ l) (about_first rest) ∙ sym (append_assoc before (map entry (take i items)) (entry item ∷ (map entry (drop (i + 1) items) ++ rest)))

  pub about_last : (before middle : List Entry) → before ++ (middle ++ map entry items) ≡ (before ++ (middle ++ map entry (take i items))) ++ entry item ∷ map entry (drop (i + 1) items)
  about_last before middle =
      ap (λ l. before ++ (middle ++ l)) about
      ∙ (ap (λ l. before ++ l) (sym (append_assoc middle (map entry (take i items)) (entry item ∷ map entry (drop (i + 1) items))))
      ∙ sym (append_assoc before (middle ++ map entry (take i items)) (entry item ∷ map entry (drop (i + 1) items))))
