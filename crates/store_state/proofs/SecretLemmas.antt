-- Where the file of a secret lies.
use Rattle.std.proofs.Common.{◌≡◌, ◌≢◌, inl, inr, ℕ, Bool, false, List, [], ◌∷◌, ◌++◌, Some, None, if◌then◌else◌, bytes_eq, refl, ap, sym, ◌∙◌, subst, arith, cond, drop}
use Rattle.std.specs.Prelude.{codes}
use Rattle.std.proofs.lemmas.Bool.{false_from_ne_true, or_cases}
use Rattle.std.proofs.lemmas.List.{append_assoc, append_cancel_left, append_cancel_right}
use Rattle.std.proofs.lemmas.Slice.Eq.{bytes_eq-Decides}
use Rattle.gopass_base.specs.Text.{Text}
use Rattle.mount_table.specs.Names.{IsName}
use Rattle.gopass_base.specs.Paths.{path_in, file_of}
use Rattle.mount_table.specs.Mounts.{row_at, root_of, IsTable, IsFileOf}
use Rattle.mount_table.specs.MountOf.{mount_of}
use Rattle.mount_table.specs.declared.mounts.Row.{Row}
use Rattle.mount_table.proofs.MountOfLemmas.{mount_computed}
use Rattle.disk_model.specs.Files.{Files}
use Rattle.pending_journal.specs.Service.{is_service, without_service}
use Rattle.store_state.specs.Places.{dir_of, rest_of, secret_path, IsSecretAt}
use Rattle.store_state.specs.Tree.{is_own, tree_files}
use Rattle.store_state.specs.State.{mounts_path, pending_path}
use Rattle.store_state.proofs.OneKind.{differ, one_secret}
use Rattle.store_state.proofs.PathLemmas.{secret_at_path}
use Rattle.store_state.proofs.NameLemmas.{no_service, one_dir}
use Rattle.std.specs.FinMap as map
use Rattle.std.specs.Ordering.{nat_cmp, eq_by_cmp}
use Rattle.std.specs.Cmp.Lexicographic.{slice_cmp}
use Rattle.std.proofs.lemmas.Cmp.{nat_list_cmp_total}
use Rattle.std.proofs.lemmas.Map.Lookups.{exact_bytes}
use Rattle.gopass_base.specs.Order.{TextMap}
use Rattle.store_state.proofs.TableLemmas.{equal, ties}
use Rattle.mount_table.specs.Prefixes.{rest_start}
use Rattle.mount_table.proofs.MountLemmas.{one_row}

-- ---- the file of a secret is none of the store's own

ends_in_gpg : (mounts : List Row) (name : Text) → secret_path mounts name ≡ path_in (dir_of mounts name) (rest_of mounts name) ++ codes ".gpg"
ends_in_gpg mounts name = sym (append_assoc (dir_of mounts name) (47 ∷ rest_of mounts name) (codes ".gpg"))

pub no_mounts_file : (root : Text) (mounts : List Row) (name : Text) → secret_path mounts name ≢ mounts_path root
no_mounts_file root mounts name e =
    absurd (omega (arith, differ (path_in (dir_of mounts name) (rest_of mounts name)) root (codes ".gp") (47 ∷ codes ".gopass-mount") 103 115 (sym (ends_in_gpg mounts name) ∙ e)))

pub no_pending_file : (root : Text) (mounts : List Row) (name : Text) → secret_path mounts name ≢ pending_path root
no_pending_file root mounts name e =
    let front = path_in (dir_of mounts name) (rest_of mounts name) in
    let whole : (front ++ codes ".gp") ++ 103 ∷ [] ≡ (root ++ 47 ∷ codes ".gopass-pendin") ++ 103 ∷ [] =
    append_assoc front (codes ".gp") (103 ∷ []) ∙ (sym (ends_in_gpg mounts name) ∙ (e ∙ sym (append_assoc root (47 ∷ codes ".gopass-pendin") (103 ∷ [])))) in
    absurd (omega (arith, differ front root (codes ".g") (47 ∷ codes ".gopass-pendi") 112 110 (append_cancel_right (front ++ codes ".gp") (root ++ 47 ∷ codes ".gopass-pendin") (103 ∷ []) whole)))

is_no_own : (root : Text) (mounts : List Row) (name : Text) → is_own root (secret_path mounts name) ≡ false
is_no_own root mounts name = false_from_ne_true (is_own root (secret_path mounts name)) (λ e.
    elim (or_cases (bytes_eq (secret_path mounts name) (mounts_path root)) (bytes_eq (secret_path mounts name) (pending_path root)) e) [
      | inl same ↦ no_mounts_file root mounts name ((bytes_eq-Decides (secret_path mounts name) (mounts_path root)).0 same)
      | inr same ↦ no_pending_file root mounts name ((bytes_eq-Decides (secret_path mounts name) (pending_path root)).0 same)
    ])

-- so the tree has it as the files do
pub secret_in_tree : (root : Text) (files : Files) (mounts : List Row) (name : Text) → IsTable root mounts → IsName name → tree_files root files (secret_path mounts name) ≡ files (secret_path mounts name)
secret_in_tree root files mounts name table good =
    ap (λ (t : Bool). if t then None else without_service root files (secret_path mounts name)) (is_no_own root mounts name)
    ∙ ap (λ (t : Bool). if t then None else files (secret_path mounts name)) (no_service root mounts name table good)

-- ---- a value more in a finite map

pub insert_here : {X : Type 0} (m : TextMap X) (key : Text) (value : X) → map.get (map.insert m key value) key ≡ Some value
insert_here m key value = map.get-insert nat_list_cmp_total m key value key ∙ ap (λ b. cond b (Some value) (map.get m key)) (ties key key refl)

pub insert_apart : {X : Type 0} (m : TextMap X) (key q : Text) (value : X) → key ≢ q → map.get (map.insert m key value) q ≡ map.get m q
insert_apart m key q value apart = map.get-insert nat_list_cmp_total m key value q
    ∙ ap (λ b. cond b (Some value) (map.get m q)) (false_from_ne_true (eq_by_cmp (slice_cmp nat_cmp) q key) (λ e. apart (sym (exact_bytes q key (equal (slice_cmp nat_cmp q key) e)))))

-- ---- the file of a secret is that of no other one

pub secret_paths_same : (root : Text) (mounts : List Row) (a b : Text) → IsTable root mounts → IsName a → IsName b → secret_path mounts a ≡ secret_path mounts b → a ≡ b
secret_paths_same root mounts a b table good_a good_b e =
    let j = mount_of mounts a in
    let k = mount_of mounts b in
    let one = rest_of mounts a ++ codes ".gpg" in
    let other = rest_of mounts b ++ codes ".gpg" in
    let here = mount_computed root a mounts table in
    let there = mount_computed root b mounts table in
    let row : j ≡ k = one_dir root mounts j k one other table here.inside there.inside e in
    let tails : 47 ∷ one ≡ 47 ∷ other = append_cancel_left (row_at mounts k).dir (47 ∷ one) (47 ∷ other) (ap (λ n. path_in (row_at mounts n).dir one) (sym row) ∙ e) in
    let rests : one ≡ other = cc in
    let at : IsSecretAt (row_at mounts k).alias other a = subst (λ (rest : Text). IsSecretAt (row_at mounts k).alias rest a) rests
    (subst (λ (n : ℕ). IsSecretAt (row_at mounts n).alias one a) row (secret_at_path root mounts a table good_a)) in
    one_secret (row_at mounts k).alias other a b at (secret_at_path root mounts b table good_b)

pub secret_paths_differ : (root : Text) (mounts : List Row) (a b : Text) → IsTable root mounts → IsName a → IsName b → a ≢ b → secret_path mounts a ≢ secret_path mounts b
secret_paths_differ root mounts a b table good_a good_b apart e = apart (secret_paths_same root mounts a b table good_a good_b e)

pub secret_file : (root : Text) (mounts : List Row) (name path : Text) → IsTable root mounts → IsFileOf mounts name path → path ≡ secret_path mounts name
secret_file root mounts name path table is =
    let own : is.row ≡ mount_of mounts name = one_row root name mounts is.row (mount_of mounts name) table is.mount (mount_computed root name mounts table) in
    is.file ∙ ap (λ n. file_of (row_at mounts n).dir (drop (rest_start (row_at mounts n).alias name) name)) own

-- and is none of the vault's own
pub secret_file_plain : (root : Text) (found mounts : List Row) (name path : Text) → mounts ≡ found → root_of found ≡ root → IsTable (root_of mounts) mounts → IsName name → IsFileOf mounts name path → is_service root path ≡ false
secret_file_plain root found mounts name path same rooted table good file =
    let here = subst (λ (r : Text). IsTable r mounts) (ap root_of same ∙ rooted) table in
    ap (is_service root) (secret_file root mounts name path here file) ∙ no_service root mounts name here good
