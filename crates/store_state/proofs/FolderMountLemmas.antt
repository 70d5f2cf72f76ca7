-- The mount of a folder that is computed row by row is the row with the most parts among those that reach it.
use Rattle.std.proofs.Common.{◌≡◌, ℕ, ◌+◌, ◌<◌, List, [], ◌∷◌, ◌++◌, length, get_or, Bool, true, false, ◌&&◌, bytes_eq, if◌then◌else◌, refl, ap, sym, ◌∙◌, subst, arith, length-append}
use Rattle.std.proofs.lemmas.List.{get_or_at, append_assoc, append-nil}
use Rattle.std.proofs.lemmas.Slice.Eq.{bytes_eq-Decides}
use Rattle.std.proofs.lemmas.Bool.{and_parts, true≢false}
use Rattle.gopass_base.specs.Text.{Text}
use Rattle.mount_table.specs.Prefixes.{folder_parts, IsPrefix}
use Rattle.mount_table.specs.Mounts.{IsTable, IsMountOfFolder}
use Rattle.mount_table.specs.declared.mounts.Row.{Row}
use Rattle.mount_table.proofs.TableLemmas.{root_reaches_all}
use Rattle.mount_table.proofs.MountLemmas.{IsLast, last_here, last_stays, mount_of_folder}
use Rattle.store_state.specs.Places.{is_prefix, reaches, last_that_reaches, folder_mount}

prefix-says : (ps qs : List Text) → is_prefix ps qs ≡ true → IsPrefix ps qs
prefix-says [] qs e = (qs, refl)
prefix-says (p ∷ ps) [] e = absurd (cc)
prefix-says (p ∷ ps) (q ∷ qs) e =
    let tests = and_parts (bytes_eq p q) (is_prefix ps qs) e in
    let (rest, more) = prefix-says ps qs tests.1 in
    let same : p ≡ q = (bytes_eq-Decides p q).0 tests.0 in
    (rest, λ i. sym same i ∷ more i)

prefix-tells : (ps rest : List Text) → is_prefix ps (ps ++ rest) ≡ true
prefix-tells [] rest = refl
prefix-tells (p ∷ ps) rest = ap (λ b. b && is_prefix ps (ps ++ rest)) ((bytes_eq-Decides p p).1 refl) ∙ prefix-tells ps rest

reaches-says : (alias folder : Text) → reaches alias folder ≡ true → IsPrefix (folder_parts alias) (folder_parts folder)
reaches-says alias folder e = prefix-says (folder_parts alias) (folder_parts folder) e

reaches-tells : (alias folder : Text) → IsPrefix (folder_parts alias) (folder_parts folder) → reaches alias folder ≡ true
reaches-tells alias folder (rest, whole) = ap (is_prefix (folder_parts alias)) whole ∙ prefix-tells (folder_parts alias) rest

-- the rows so far, and those that are left
record IsRun (rows done rest : List Row) (n : ℕ) : Type 0 where
  whole : rows ≡ done ++ rest
  count : n ≡ length done

one_more : (rows done : List Row) (row : Row) (rest : List Row) (n : ℕ) → IsRun rows done (row ∷ rest) n → IsRun rows (done ++ row ∷ []) rest (n + 1)
one_more rows done row rest n run = record {
  whole = run.whole ∙ sym (append_assoc done (row ∷ []) rest);
  count = omega (arith, run.count, length-append done (row ∷ []));
}

here : (rows done : List Row) (row : Row) (rest : List Row) (n : ℕ) → IsRun rows done (row ∷ rest) n → get_or rows n row ≡ row
here rows done row rest n run = ap (λ l. get_or l n row) run.whole ∙ get_or_at done row rest row n (sym run.count)

inside : (rows done : List Row) (row : Row) (rest : List Row) (n : ℕ) → IsRun rows done (row ∷ rest) n → n < length rows
inside rows done row rest n run = omega (arith, run.count, ap length run.whole, length-append done (row ∷ rest))

abbrev Reached : Text → Row → Type 0
Reached folder row = IsPrefix (folder_parts row.alias) (folder_parts folder)

runs : (folder : Text) (rows done rest : List Row) (last n : ℕ) → IsRun rows done rest n → IsLast (Reached folder) rows last n → IsLast (Reached folder) rows (last_that_reaches rest folder n last) (length rows)
runs folder rows done [] last n run so_far = subst (IsLast (Reached folder) rows last) (omega (arith, run.count, ap length run.whole, ap length (append-nil done))) so_far
runs folder rows done (row ∷ rest) last n run so_far =
    elim (reaches row.alias folder) as (λ b. reaches row.alias folder ≡ b → IsLast (Reached folder) rows (last_that_reaches rest folder (n + 1) (if b then n else last)) (length rows)) [
      | true ↦ λ e. runs folder rows (done ++ row ∷ []) rest n (n + 1) (one_more rows done row rest n run)
          (last_here (Reached folder) rows last n n row so_far (inside rows done row rest n run)
          (subst (Reached folder) (sym (here rows done row rest n run)) (reaches-says row.alias folder e)) refl)
      | false ↦ λ e. runs folder rows (done ++ row ∷ []) rest last (n + 1) (one_more rows done row rest n run)
          (last_stays (Reached folder) rows last last n row so_far (inside rows done row rest n run)
          (λ p. true≢false (sym (reaches-tells row.alias folder (subst (Reached folder) (here rows done row rest n run) p)) ∙ e)) refl)
    ] refl

pub folder_computed : (root folder : Text) (rows : List Row) → IsTable root rows → IsMountOfFolder rows folder (folder_mount rows folder)
folder_computed root folder rows table =
    mount_of_folder root folder rows (folder_mount rows folder) (length rows) table
    (runs folder rows [] rows 0 0 (record { whole = refl; count = refl })
    (record { inside = (let some = table.some in omega arith); here = root_reaches_all root folder rows table; none = λ j low high. absurd (omega (arith, low, high)) }))
    (omega arith)
