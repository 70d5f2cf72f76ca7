-- What lies at a rest below a mount.
use Rattle.std.proofs.Common.{◌≡◌, ◌≢◌, ◌↔◌, inl, inr, ℕ, ◌<◌, Bool, true, false, List, [], ◌∷◌, ◌++◌, length, get_or, IsTrue, All, Option, Some, None, Bor, if◌then◌else◌, refl, ap, sym, ◌∙◌, subst, arith, length-append}
use Rattle.std.specs.Prelude.{MatchOption}
use Rattle.std.specs.Bool.{MatchBool}
use Rattle.std.specs.List.{AllWithin, HoldsAt}
use Rattle.std.proofs.lemmas.List.{append_assoc, append_cancel_right, get_or_default}
use Rattle.std.proofs.lemmas.List.Elements.{All-from_all_within}
use Rattle.gopass_base.specs.Text.{Text}
use Rattle.std.proofs.lemmas.Bool.Decides.{Decides-eqb}
use Rattle.disk_model.specs.Listing.{rest_in}
use Rattle.disk_model.proofs.ListingLemmas.{rest_behind}
use Rattle.gopass_base.specs.Paths.{path_in}
use Rattle.mount_table.specs.Folders.{IsFolder}
use Rattle.mount_table.specs.Prefixes.{folder_parts}
use Rattle.mount_table.specs.Mounts.{IsBelow, IsTable, IsMountOfFolder, no_row, row_at}
use Rattle.mount_table.specs.declared.mounts.Row.{Row}
use Rattle.mount_table.proofs.OrderLemmas.{one_alias, not_below_itself}
use Rattle.mount_table.proofs.TableLemmas.{sides}
use Rattle.store_state.specs.Places.{IsFolderFileAt, folder_under, in_folder}

-- some part is so exactly where not each is otherwise
pub some_is : (P : List ℕ → Type 0) (r : Bool) (xs : List (List ℕ)) → MatchBool r ((k : ℕ) × (k < length xs) × HoldsAt P xs k) (AllWithin (λ x. ¬ P x) xs 0 (length xs)) → IsTrue r ↔ ¬ All (λ x. ¬ P x) xs
some_is P true xs m = (λ t a. a m.0 [] m.1 (m.2 []), λ n. refl)
some_is P false xs m = (λ t. absurd (cc), λ n. absurd (n (All-from_all_within (λ x. ¬ P x) xs m)))

-- ---- a file of a folder

in_some : (below file : Text) → 0 < length below → in_folder below file ≡ (below ++ 47 ∷ []) ++ file
in_some [] file some = absurd (omega arith)
in_some (b ∷ below) file some = sym (append_assoc (b ∷ below) (47 ∷ []) file)

pub nowhere_without : (rest file : Text) → ((front : Text) → rest ≢ front ++ file) → (below : Text) → rest ≢ in_folder below file
nowhere_without rest file other [] e = other [] e
nowhere_without rest file other (b ∷ below) e = other ((b ∷ below) ++ 47 ∷ []) (e ∙ in_some (b ∷ below) file (omega arith))

pub folder_by_slash : (rest file front : Text) (r : Option (Bor Text)) → rest ≡ front ++ file → rest ≢ file
    → MatchOption r ((below : Text) → 0 < length below → front ≢ below ++ 47 ∷ []) (λ below. (0 < length below.now) × (front ≡ below.now ++ 47 ∷ []))
    → MatchOption r ((below : Text) → rest ≢ in_folder below file) (λ below. rest ≡ in_folder below.now file)
folder_by_slash rest file front None whole apart other = none
  where
    none : (below : Text) → rest ≢ in_folder below file
    none [] e = apart e
    none (b ∷ below) e = other (b ∷ below) (omega arith) (append_cancel_right front ((b ∷ below) ++ 47 ∷ []) file (sym whole ∙ (e ∙ in_some (b ∷ below) file (omega arith))))
folder_by_slash rest file front (Some below) whole apart (some, is) = whole ∙ (ap (λ t. t ++ file) is ∙ sym (in_some below.now file some))

pub in_folder_once : (below other file : Text) → in_folder below file ≡ in_folder other file → below ≡ other
in_folder_once [] [] file e = refl
in_folder_once [] (b ∷ other) file e = absurd (omega (arith, ap length e, length-append (b ∷ other) (47 ∷ file)))
in_folder_once (b ∷ below) [] file e = absurd (omega (arith, ap length e, length-append (b ∷ below) (47 ∷ file)))
in_folder_once (b ∷ below) (c ∷ other) file e = append_cancel_right (b ∷ below) (c ∷ other) (47 ∷ file) e

-- a folder that was read of its full name, and the folder of a file
abbrev pub FolderIs : (alias below : Text) → Option Text → Type 0
FolderIs alias below found = MatchOption found (¬ IsFolder (folder_under alias below)) (λ folder. (folder ≡ folder_under alias below) × IsFolder folder)

abbrev pub IsFolderWith : (file alias rest : Text) → Option Text → Type 0
IsFolderWith file alias rest found = MatchOption found ((folder : Text) → ¬ IsFolderFileAt file alias rest folder) (λ folder. IsFolderFileAt file alias rest folder)

-- the folder at a rest, where it is one
pub folder_there : (alias rest below file : Text) (found : Option Text) → rest ≡ in_folder below file → FolderIs alias below found → IsFolderWith file alias rest found
folder_there alias rest below file None there other = λ folder h.
    (let same : h.below ≡ below = in_folder_once h.below below file (sym h.there ∙ there) in
    other (subst (λ (t : Text). IsFolder t) (h.named ∙ ap (folder_under alias) same) h.good))
folder_there alias rest below file (Some folder) there (named, good) = record { below = below; there = there; named = named; good = good }

-- ---- a folder belongs to one mount

pub one_folder_row : (root folder : Text) (rows : List Row) (j k : ℕ) → IsTable root rows → IsMountOfFolder rows folder j → IsMountOfFolder rows folder k → j ≡ k
one_folder_row root folder rows j k table m n =
    let same : (row_at rows j).alias ≡ (row_at rows k).alias = one_alias (row_at rows j).alias (row_at rows k).alias (folder_parts folder) m.reaches n.reaches (omega (arith, m.most k n.inside n.reaches, n.most j m.inside m.reaches)) in
    elim (sides j k) [
      | inl low ↦ absurd (not_below_itself (row_at rows k).alias (subst (λ (t : Text). IsBelow t (row_at rows k).alias) same (table.rows_are.before j k low n.inside).rises))
      | inr (inl here) ↦ here
      | inr (inr high) ↦ absurd (not_below_itself (row_at rows k).alias (subst (λ (t : Text). IsBelow (row_at rows k).alias t) same (table.rows_are.before k j high m.inside).rises))
    ]

-- the row that was read at an index
pub alias_at : (text : Text) (rows mounts : List Row) (k : ℕ) (row : Row) → text ≡ (get_or rows k row).alias → rows ≡ mounts → k < length mounts → text ≡ (row_at mounts k).alias
alias_at text rows mounts k row is same inside = is ∙ (ap (λ (l : List Row). (get_or l k row).alias) same ∙ ap (λ (r : Row). r.alias) (get_or_default mounts k row no_row inside))

pub dir_at : (text : Text) (rows mounts : List Row) (k : ℕ) (row : Row) → text ≡ (get_or rows k row).dir → rows ≡ mounts → k < length mounts → text ≡ (row_at mounts k).dir
dir_at text rows mounts k row is same inside = is ∙ (ap (λ (l : List Row). (get_or l k row).dir) same ∙ ap (λ (r : Row). r.dir) (get_or_default mounts k row no_row inside))

-- what stands behind the directory in a path that lies below it
pub rest_found : (dir rest : Text) → rest_in dir (path_in dir rest) ≡ Some rest
rest_found dir rest = rest_behind dir (47 ∷ rest) ∙ ap (λ t. if t then Some rest else None) ((Decides-eqb 47 47).1 refl)

pub nothing_found : (r : Option Text) (x : Text) → r ≡ None → r ≡ Some x → ⊥
nothing_found None x none some = absurd (cc)
nothing_found (Some y) x none some = absurd (cc)

pub same_found : (x y : Text) → Some x ≡ Some y → x ≡ y
same_found x y e = cc
