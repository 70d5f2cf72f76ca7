-- The rows of a folder, and whether it has some.
use Rattle.std.proofs.Common.{◌≡◌, ◌==◌, ℕ, suc, Bool, true, false, ◌||◌, not, cond, List, [], ◌∷◌, length, refl, ap, sym, ◌∙◌, arith}
use Rattle.std.proofs.lemmas.Bool.Decides.{nat_tests}
use Rattle.std.specs.Prelude.{All}
use Rattle.std.proofs.lemmas.List.Elements.{All-cons, All-nil}
use Rattle.gopass_base.specs.Text.{Text}
use Rattle.mount_table.specs.Prefixes.{Holds}
use Rattle.mount_table.specs.MountOf.{holds}
use Rattle.mount_table.proofs.MountOfLemmas.{holds-says}
use Rattle.store_core.specs.Reads.{rows_under}
use Rattle.store_core.specs.Show.{holds_one}

-- the rows of a folder are those that it holds
pub rows_held : (folder : Text) (names : List Text) → All (Holds folder) (rows_under folder names)
rows_held folder [] = All-nil (Holds folder)
rows_held folder (name ∷ names) = elim (holds folder name) as (λ b. holds folder name ≡ b → All (Holds folder) (cond b (name ∷ rows_under folder names) (rows_under folder names))) [
  | true ↦ λ e. All-cons (Holds folder) name (rows_under folder names) (holds-says folder name e) (rows_held folder names)
  | false ↦ λ e. rows_held folder names
] refl

some_row : (folder name : Text) (names : List Text) → name ∷ names ≡ [] → ⊥
some_row folder name names e = cc

-- without a row the folder holds none of the names
none_held : (folder : Text) (names : List Text) → rows_under folder names ≡ [] → holds_one folder names ≡ false
none_held folder [] e = refl
none_held folder (name ∷ names) e = by (none_held folder names) (holds folder name) refl
  where
    by : (rows_under folder names ≡ [] → holds_one folder names ≡ false) → (b : Bool) → holds folder name ≡ b → holds_one folder (name ∷ names) ≡ false
    by more true h = absurd (some_row folder name (rows_under folder names) (sym (ap (λ t. cond t (name ∷ rows_under folder names) (rows_under folder names)) h) ∙ e))
    by more false h = ap (λ t. t || holds_one folder names) h ∙ more (sym (ap (λ t. cond t (name ∷ rows_under folder names) (rows_under folder names)) h) ∙ e)

some_held : (folder : Text) (names : List Text) → (rows_under folder names ≡ [] → ⊥) → holds_one folder names ≡ true
some_held folder [] some = absurd (some refl)
some_held folder (name ∷ names) some = by (some_held folder names) (holds folder name) refl
  where
    by : ((rows_under folder names ≡ [] → ⊥) → holds_one folder names ≡ true) → (b : Bool) → holds folder name ≡ b → holds_one folder (name ∷ names) ≡ true
    by more true h = ap (λ t. t || holds_one folder names) h
    by more false h = ap (λ t. t || holds_one folder names) h ∙ more (λ e. some (ap (λ t. cond t (name ∷ rows_under folder names) (rows_under folder names)) h ∙ e))

more_than_none : (n : ℕ) → (suc n == 0) ≡ false
more_than_none n = grind (arith, nat_tests)

-- a folder holds a name where it has a row
pub has_rows : (folder : Text) (names rows : List Text) (none : Bool) → rows ≡ rows_under folder names → none ≡ (length rows == 0) → not none ≡ holds_one folder names
has_rows folder names [] none is e = ap not e ∙ sym (none_held folder names (sym is))
has_rows folder names (row ∷ rows) none is e = ap not (e ∙ more_than_none (length rows)) ∙ sym (some_held folder names (λ empty. some_row folder row rows (is ∙ empty)))
