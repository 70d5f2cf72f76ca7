-- The file of a secret lies in the directory of its mount, and is of the kind of a secret.
use Rattle.std.proofs.Common.{◌≡◌, ℕ, ◌+◌, List, [], ◌∷◌, ◌++◌, length, drop, refl, ap, sym, ◌∙◌, subst, arith, length-append}
use Rattle.std.specs.Prelude.{codes}
use Rattle.std.proofs.lemmas.List.{drop_at, append_assoc}
use Rattle.gopass_base.specs.Text.{Text}
use Rattle.gopass_base.specs.Parts.{IsHidden}
use Rattle.mount_table.specs.Names.{IsName}
use Rattle.gopass_base.specs.Paths.{path_in, file_of}
use Rattle.mount_table.specs.Prefixes.{Holds, rest_start}
use Rattle.mount_table.specs.Mounts.{row_at, IsTable, IsMountOf}
use Rattle.mount_table.specs.MountOf.{mount_of}
use Rattle.mount_table.specs.declared.mounts.Row.{Row}
use Rattle.mount_table.proofs.FolderLemmas.{bytes_by_holds}
use Rattle.mount_table.proofs.RestLemmas.{start_other}
use Rattle.mount_table.proofs.MountLemmas.{one_row}
use Rattle.mount_table.proofs.MountOfLemmas.{mount_computed}
use Rattle.disk_model.specs.Listing.{LiesIn}
use Rattle.store_state.specs.Places.{IsSecretAt, dir_of, rest_of, secret_path, in_folder}
use Rattle.store_state.proofs.OneKind.{secret_shown}

behind_under : (alias stem : Text) → Holds alias (in_folder alias stem) → drop (rest_start alias (in_folder alias stem)) (in_folder alias stem) ≡ stem
behind_under [] stem holds = refl
behind_under (b ∷ alias) stem holds =
    ap (λ n. drop n (path_in (b ∷ alias) stem)) (start_other (b ∷ alias) (path_in (b ∷ alias) stem) (λ e. absurd (omega (arith, e))) holds)
    ∙ (ap (drop (length (b ∷ alias) + 1)) (sym (append_assoc (b ∷ alias) (47 ∷ []) stem))
    ∙ drop_at ((b ∷ alias) ++ 47 ∷ []) stem (length (b ∷ alias) + 1) (omega (arith, length-append (b ∷ alias) (47 ∷ []))))

under_behind : (alias name : Text) → Holds alias name → in_folder alias (drop (rest_start alias name) name) ≡ name
under_behind [] name holds = refl
under_behind (b ∷ alias) name holds =
    let (more, whole) = bytes_by_holds b alias name holds in
    let rest = subst (λ (t : Text). Holds (b ∷ alias) t) whole holds in
    ap (path_in (b ∷ alias)) (ap (λ (t : Text). drop (rest_start (b ∷ alias) t) t) whole ∙ behind_under (b ∷ alias) more rest) ∙ sym whole

-- where the k-th mount has the secret is its file, if that is its mount
pub path_by_mount : (mounts : List Row) (k : ℕ) (rest name : Text) → mount_of mounts name ≡ k → IsSecretAt (row_at mounts k).alias rest name → IsMountOf mounts name k → path_in (row_at mounts k).dir rest ≡ secret_path mounts name
path_by_mount mounts k rest name own h here =
    let behind : drop (rest_start (row_at mounts k).alias name) name ≡ h.stem =
    ap (λ (t : Text). drop (rest_start (row_at mounts k).alias t) t) h.named ∙ behind_under (row_at mounts k).alias h.stem (subst (λ (t : Text). Holds (row_at mounts k).alias t) h.named here.holds) in
    ap (path_in (row_at mounts k).dir) (h.file ∙ ap (λ t. t ++ codes ".gpg") (sym behind))
    ∙ ap (λ n. file_of (row_at mounts n).dir (drop (rest_start (row_at mounts n).alias name) name)) (sym own)

pub path_of_secret : (root : Text) (mounts : List Row) (k : ℕ) (rest name : Text) → IsTable root mounts → IsSecretAt (row_at mounts k).alias rest name → IsMountOf mounts name k → path_in (row_at mounts k).dir rest ≡ secret_path mounts name
path_of_secret root mounts k rest name table h here = path_by_mount mounts k rest name (one_row root name mounts (mount_of mounts name) k table (mount_computed root name mounts table) here) h here

-- the file of a name is where its mount has the secret
pub secret_at_path : (root : Text) (mounts : List Row) (name : Text) → IsTable root mounts → IsName name → IsSecretAt (row_at mounts (mount_of mounts name)).alias (rest_of mounts name ++ codes ".gpg") name
secret_at_path root mounts name table good = record {
  stem = rest_of mounts name;
  file = refl;
  named = sym (under_behind (row_at mounts (mount_of mounts name)).alias name (mount_computed root name mounts table).holds);
  good = good;
}

pub secret_lies_in : (root : Text) (mounts : List Row) (name : Text) → IsTable root mounts → IsName name → LiesIn (dir_of mounts name) (secret_path mounts name)
secret_lies_in root mounts name table good = record {
  rest = rest_of mounts name ++ codes ".gpg";
  whole = refl;
  no_git = (let shown = secret_shown (row_at mounts (mount_of mounts name)).alias (rest_of mounts name ++ codes ".gpg") name (secret_at_path root mounts name table good) in
      λ k d lt e. shown k d lt (subst (λ (t : Text). IsHidden t) (sym e) refl));
}
