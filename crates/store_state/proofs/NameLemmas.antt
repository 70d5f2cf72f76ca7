-- The names of a store are those of the secrets whose files are there.
use Rattle.std.proofs.Common.{◌≡◌, ◌⊎◌, ◌↔◌, inl, inr, ℕ, ◌<◌, Bool, true, false, ◌||◌, List, [], ◌∷◌, ◌++◌, length, bytes_eq, Option, Some, None, if◌then◌else◌, refl, ap, sym, ◌∙◌, subst, arith}
use Rattle.std.specs.Prelude.{All, Contains, codes}
use Rattle.std.proofs.lemmas.Bool.{false_from_ne_true, or_cases}
use Rattle.std.proofs.lemmas.List.{append_cancel_left}
use Rattle.std.proofs.lemmas.List.Elements.{All-head}
use Rattle.std.proofs.lemmas.Slice.Eq.{bytes_eq-Decides}
use Rattle.gopass_base.specs.Text.{Text}
use Rattle.gopass_base.specs.Parts.{parts, IsHidden}
use Rattle.mount_table.specs.Names.{IsName}
use Rattle.gopass_base.specs.Paths.{path_in}
use Rattle.mount_table.specs.Prefixes.{Nest}
use Rattle.mount_table.specs.Mounts.{row_at, IsTable}
use Rattle.mount_table.specs.MountOf.{mount_of}
use Rattle.mount_table.specs.declared.mounts.Row.{Row}
use Rattle.gopass_base.proofs.JoinLemmas.{parts_join}
use Rattle.mount_table.proofs.OrderLemmas.{longer_begins}
use Rattle.mount_table.proofs.TableLemmas.{sides}
use Rattle.mount_table.proofs.MountOfLemmas.{mount_computed}
use Rattle.disk_model.specs.Files.{Files}
use Rattle.disk_model.specs.Listing.{LiesIn, IsThere, lies_in, rest_in}
use Rattle.disk_model.proofs.ListingLemmas.{lies_by, rest_is}
use Rattle.pending_journal.specs.Service.{is_service, is_service_rest, without_service}
use Rattle.store_state.specs.declared.kind.Kind.{Kind}
use Rattle.store_state.specs.declared.kind.Kind.TheVariants.{Secret}
use Rattle.store_state.specs.declared.opening.Found.{Found}
use Rattle.store_state.specs.Places.{IsKind, rest_of, secret_path}
use Rattle.store_state.specs.Tree.{is_own, tree_files}
use Rattle.store_state.specs.Opening.{IsFound}
use Rattle.store_state.proofs.OneKind.{secret_shown}
use Rattle.store_state.proofs.PathLemmas.{path_of_secret, secret_at_path, secret_lies_in}

-- ---- the directories of two mounts have no path in common

nests : (a b r s : Text) → path_in a r ≡ path_in b s → Nest a b
nests a b r s e = by (sides (length (parts a)) (length (parts b)))
  where
    same : parts a ++ parts r ≡ parts b ++ parts s
    same = sym (parts_join a r) ∙ (ap parts e ∙ parts_join b s)

    by : (length (parts a) < length (parts b)) ⊎ ((length (parts a) ≡ length (parts b)) ⊎ (length (parts b) < length (parts a))) → Nest a b
    by (inl lt) = inl (longer_begins (parts b) (parts a) (parts s) (parts r) (sym same) (omega arith))
    by (inr (inl is)) = inl (longer_begins (parts b) (parts a) (parts s) (parts r) (sym same) (omega arith))
    by (inr (inr gt)) = inr (longer_begins (parts a) (parts b) (parts r) (parts s) same (omega arith))

pub one_dir : (root : Text) (mounts : List Row) (j k : ℕ) (r s : Text) → IsTable root mounts → j < length mounts → k < length mounts → path_in (row_at mounts j).dir r ≡ path_in (row_at mounts k).dir s → j ≡ k
one_dir root mounts j k r s table in_j in_k e = elim (sides j k) [
  | inl low ↦ absurd ((table.rows_are.before j k low in_k).apart (nests (row_at mounts j).dir (row_at mounts k).dir r s e))
  | inr (inl same) ↦ same
  | inr (inr high) ↦ absurd ((table.rows_are.before k j high in_j).apart (nests (row_at mounts k).dir (row_at mounts j).dir s r (sym e)))
]

-- ---- the file of a secret is no file of the store's own

-- what has a hidden first part below the root directory is no secret's file
not_below_root : (root : Text) (mounts : List Row) (name r : Text) → IsTable root mounts → IsName name → secret_path mounts name ≡ path_in root r → ¬ All (λ part. ¬ IsHidden part) (parts r) → ⊥
not_below_root root mounts name r table good is hidden =
    let some = table.some in
    let first : (row_at mounts 0).dir ≡ root = (table.rows_are.first (omega arith)).1 in
    let k = mount_of mounts name in
    let here = mount_computed root name mounts table in
    let rest = rest_of mounts name ++ codes ".gpg" in
    let whole : path_in (row_at mounts k).dir rest ≡ path_in (row_at mounts 0).dir r = is ∙ ap (λ d. path_in d r) (sym first) in
    let same : k ≡ 0 = one_dir root mounts k 0 rest r table here.inside (omega arith) whole in
    let tails : 47 ∷ rest ≡ 47 ∷ r = append_cancel_left (row_at mounts 0).dir (47 ∷ rest) (47 ∷ r) (ap (λ n. path_in (row_at mounts n).dir rest) (sym same) ∙ whole) in
    let rests : rest ≡ r = cc in
    hidden (subst (λ (t : Text). All (λ part. ¬ IsHidden part) (parts t)) rests (secret_shown (row_at mounts k).alias rest name (secret_at_path root mounts name table good)))

one_hidden : (r : Text) → parts r ≡ r ∷ [] → IsHidden r → ¬ All (λ part. ¬ IsHidden part) (parts r)
one_hidden r one hidden shown = All-head (λ part. ¬ IsHidden part) r [] (subst (All (λ part. ¬ IsHidden part)) one shown) hidden

pub stage_hidden : (r : Text) → LiesIn (codes ".gopass-stage") r → ¬ All (λ part. ¬ IsHidden part) (parts r)
stage_hidden r lies shown = All-head (λ part. ¬ IsHidden part) (codes ".gopass-stage") (parts lies.rest) (subst (All (λ part. ¬ IsHidden part)) (ap parts lies.whole ∙ parts_join (codes ".gopass-stage") lies.rest) shown) refl

service_hidden : (r : Text) → is_service_rest (Some r) ≡ true → ¬ All (λ part. ¬ IsHidden part) (parts r)
service_hidden r e = elim (or_cases (bytes_eq r (codes ".gopass-journal")) (bytes_eq r (codes ".gopass-journal.new") || lies_in (codes ".gopass-stage") r) e) [
  | inl journal ↦ subst (λ (t : Text). ¬ All (λ part. ¬ IsHidden part) (parts t)) (sym ((bytes_eq-Decides r (codes ".gopass-journal")).0 journal)) (one_hidden (codes ".gopass-journal") refl refl)
  | inr more ↦ elim (or_cases (bytes_eq r (codes ".gopass-journal.new")) (lies_in (codes ".gopass-stage") r) more) [
    | inl new ↦ subst (λ (t : Text). ¬ All (λ part. ¬ IsHidden part) (parts t)) (sym ((bytes_eq-Decides r (codes ".gopass-journal.new")).0 new)) (one_hidden (codes ".gopass-journal.new") refl refl)
    | inr stage ↦ stage_hidden r (lies_by (codes ".gopass-stage") r stage)
  ]
]

pub no_service : (root : Text) (mounts : List Row) (name : Text) → IsTable root mounts → IsName name → is_service root (secret_path mounts name) ≡ false
no_service root mounts name table good = false_from_ne_true (is_service root (secret_path mounts name)) (by (rest_in root (secret_path mounts name)) refl)
  where
    by : (r : Option Text) → rest_in root (secret_path mounts name) ≡ r → is_service_rest r ≡ true → ⊥
    by None is e = cc
    by (Some r) is e = not_below_root root mounts name r table good (rest_is root (secret_path mounts name) r is) (service_hidden r e)

no_own : (root : Text) (mounts : List Row) (name : Text) → IsTable root mounts → IsName name → is_own root (secret_path mounts name) ≡ false
no_own root mounts name table good = false_from_ne_true (is_own root (secret_path mounts name)) (λ e.
    elim (or_cases (bytes_eq (secret_path mounts name) (path_in root (codes ".gopass-mounts"))) (bytes_eq (secret_path mounts name) (path_in root (codes ".gopass-pending"))) e) [
      | inl mounts_file ↦ not_below_root root mounts name (codes ".gopass-mounts") table good ((bytes_eq-Decides (secret_path mounts name) (path_in root (codes ".gopass-mounts"))).0 mounts_file) (one_hidden (codes ".gopass-mounts") refl refl)
      | inr pending_file ↦ not_below_root root mounts name (codes ".gopass-pending") table good ((bytes_eq-Decides (secret_path mounts name) (path_in root (codes ".gopass-pending"))).0 pending_file) (one_hidden (codes ".gopass-pending") refl refl)
    ])

secret_stays : (root : Text) (files : Files) (mounts : List Row) (name : Text) → IsTable root mounts → IsName name → tree_files root files (secret_path mounts name) ≡ files (secret_path mounts name)
secret_stays root files mounts name table good =
    ap (λ (t : Bool). if t then None else without_service root files (secret_path mounts name)) (no_own root mounts name table good)
    ∙ ap (λ (t : Bool). if t then None else files (secret_path mounts name)) (no_service root mounts name table good)

-- ---- the names

pub names_found : (root : Text) (files : Files) (found : Found) → IsTable root found.mounts → IsFound root files found → (name : Text) → Contains found.seen.names.items name ↔ (IsName name × IsThere files (secret_path found.mounts name))
names_found root files found table is name = (to, from)
  where
    to : Contains found.seen.names.items name → IsName name × IsThere files (secret_path found.mounts name)
    to has =
        let (k, path, kind, lt, inside, there, lies, gives) = (is.survey.found.names name).0 has in
        let (rest, whole, kind_is) = lies in
        let at = subst (λ (w : Kind). IsKind found.mounts k rest w) gives kind_is in
        let same : path ≡ secret_path found.mounts name = whole ∙ path_of_secret root found.mounts k rest name table at.0 at.1 in
        let good = at.0.good in
        let (bytes, is_there) = there in
        (good, (bytes, sym (secret_stays root files found.mounts name table good) ∙ (ap (tree_files root files) (sym same) ∙ is_there)))

    from : IsName name × IsThere files (secret_path found.mounts name) → Contains found.seen.names.items name
    from (good, (bytes, there)) =
        let k = mount_of found.mounts name in
        let here = mount_computed root name found.mounts table in
        let path = secret_path found.mounts name in
        (is.survey.found.names name).1 (
          k,
          path,
          Secret name,
          here.inside,
          secret_lies_in root found.mounts name table good,
          (bytes, secret_stays root files found.mounts name table good ∙ there),
          (rest_of found.mounts name ++ codes ".gpg", refl, (secret_at_path root found.mounts name table good, here)),
          refl,
        )
