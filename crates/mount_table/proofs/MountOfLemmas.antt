-- The mount of a name that is computed row by row is the row with the most parts among those that hold it.
use Rattle.std.proofs.Common.{◌≡◌, ℕ, ◌+◌, ◌<◌, List, [], ◌∷◌, ◌++◌, length, get_or, true, false, ◌&&◌, bytes_eq, if◌then◌else◌, refl, ap, sym, ◌∙◌, subst, arith, length-append}
use Rattle.std.proofs.lemmas.List.{get_or_at, append_assoc, append-nil}
use Rattle.std.proofs.lemmas.Slice.Eq.{bytes_eq-Decides}
use Rattle.std.proofs.lemmas.Bool.{and_parts, true≢false}
use Rattle.gopass_base.specs.Text.{Text}
use Rattle.gopass_base.specs.Parts.{parts}
use Rattle.mount_table.specs.Prefixes.{folder_parts, IsProperPrefix, Holds}
use Rattle.mount_table.specs.Mounts.{IsTable, IsMountOf}
use Rattle.mount_table.specs.MountOf.{is_proper_prefix, holds, last_that_holds, mount_of}
use Rattle.mount_table.specs.declared.mounts.Row.{Row}
use Rattle.mount_table.proofs.TableLemmas.{root_holds}
use Rattle.mount_table.proofs.MountLemmas.{IsLast, last_here, last_stays, mount_of as mount_by_last}

pub begins-says : (ps qs : List Text) → is_proper_prefix ps qs ≡ true → IsProperPrefix ps qs
begins-says ps [] e = absurd (cc)
begins-says [] (q ∷ qs) e = (q, qs, refl)
begins-says (p ∷ ps) (q ∷ qs) e =
    let tests = and_parts (bytes_eq p q) (is_proper_prefix ps qs) e in
    let (next, rest, more) = begins-says ps qs tests.1 in
    let same : p ≡ q = (bytes_eq-Decides p q).0 tests.0 in
    (next, rest, λ i. sym same i ∷ more i)

pub begins-tells : (ps rest : List Text) (next : Text) → is_proper_prefix ps (ps ++ next ∷ rest) ≡ true
begins-tells [] rest next = refl
begins-tells (p ∷ ps) rest next = ap (λ b. b && is_proper_prefix ps (ps ++ next ∷ rest)) ((bytes_eq-Decides p p).1 refl) ∙ begins-tells ps rest next

pub holds-says : (folder name : Text) → holds folder name ≡ true → Holds folder name
holds-says folder name e = begins-says (folder_parts folder) (parts name) e

pub holds-tells : (folder name : Text) → Holds folder name → holds folder name ≡ true
holds-tells folder name (next, rest, whole) = ap (is_proper_prefix (folder_parts folder)) whole ∙ begins-tells (folder_parts folder) rest next

pub record IsRun (rows done rest : List Row) (n : ℕ) : Type 0 where
  pub whole : rows ≡ done ++ rest
  pub count : n ≡ length done

one_more : (rows done : List Row) (row : Row) (rest : List Row) (n : ℕ) → IsRun rows done (row ∷ rest) n → IsRun rows (done ++ row ∷ []) rest (n + 1)
one_more rows done row rest n run = record {
  whole = run.whole ∙ sym (append_assoc done (row ∷ []) rest);
  count = omega (arith, run.count, length-append done (row ∷ []));
}

here : (rows done : List Row) (row : Row) (rest : List Row) (n : ℕ) → IsRun rows done (row ∷ rest) n → get_or rows n row ≡ row
here rows done row rest n run = ap (λ l. get_or l n row) run.whole ∙ get_or_at done row rest row n (sym run.count)

inside : (rows done : List Row) (row : Row) (rest : List Row) (n : ℕ) → IsRun rows done (row ∷ rest) n → n < length rows
inside rows done row rest n run = omega (arith, run.count, ap length run.whole, length-append done (row ∷ rest))

runs : (name : Text) (rows done rest : List Row) (last n : ℕ) → IsRun rows done rest n → IsLast (λ (row : Row). Holds row.alias name) rows last n → IsLast (λ (row : Row). Holds row.alias name) rows (last_that_holds rest name n last) (length rows)
runs name rows done [] last n run so_far = subst (IsLast (λ (row : Row). Holds row.alias name) rows last) (omega (arith, run.count, ap length run.whole, ap length (append-nil done))) so_far
runs name rows done (row ∷ rest) last n run so_far =
    elim (holds row.alias name) as (λ b. holds row.alias name ≡ b → IsLast (λ (row : Row). Holds row.alias name) rows (last_that_holds rest name (n + 1) (if b then n else last)) (length rows)) [
      | true ↦ λ e. runs name rows (done ++ row ∷ []) rest n (n + 1) (one_more rows done row rest n run)
          (last_here (λ (row : Row). Holds row.alias name) rows last n n row so_far (inside rows done row rest n run)
          (subst (λ (r : Row). Holds r.alias name) (sym (here rows done row rest n run)) (holds-says row.alias name e)) refl)
      | false ↦ λ e. runs name rows (done ++ row ∷ []) rest last (n + 1) (one_more rows done row rest n run)
          (last_stays (λ (row : Row). Holds row.alias name) rows last last n row so_far (inside rows done row rest n run)
          (λ p. true≢false (sym (holds-tells row.alias name (subst (λ (r : Row). Holds r.alias name) (here rows done row rest n run) p)) ∙ e)) refl)
    ] refl

pub mount_computed : (root name : Text) (rows : List Row) → IsTable root rows → IsMountOf rows name (mount_of rows name)
mount_computed root name rows table =
    mount_by_last root name rows (mount_of rows name) (length rows) table
    (runs name rows [] rows 0 0 (record { whole = refl; count = refl })
    (record { inside = (let some = table.some in omega arith); here = root_holds root name rows table; none = λ j low high. absurd (omega (arith, low, high)) }))
    (omega arith)
