-- Where the secrets, rules and templates of a store lie, and what its directories have beside them.
use Rattle.std.specs.Prelude.{◌≡◌, ◌⊎◌, ℕ, ◌+◌, Bool, true, false, ◌&&◌, List, [], ◌∷◌, ◌++◌, length, drop, codes, bytes_eq, All, if◌then◌else◌}
use Rattle.gopass_base.specs.Text.{Text}
use Rattle.gopass_base.specs.Parts.{parts, IsHidden}
use Rattle.mount_table.specs.Names.{IsName}
use Rattle.mount_table.specs.Folders.{IsFolder}
use Rattle.gopass_base.specs.Paths.{path_in, file_of}
use Rattle.mount_table.specs.Prefixes.{folder_parts, rest_start}
use Rattle.mount_table.specs.Mounts.{row_at, IsMountOf, IsMountOfFolder}
use Rattle.mount_table.specs.MountOf.{mount_of}
use Rattle.mount_table.specs.declared.mounts.Row.{Row}
use Rattle.store_state.specs.declared.kind.Kind.{Kind}
use Rattle.store_state.specs.declared.kind.Kind.TheVariants.{Secret, Rule, Template, Shadowed, Hidden, Strange}

-- ---- the file of a secret

-- the directory of the mount of a secret, and the rest of its name there
abbrev pub dir_of : List Row → Text → Text
dir_of mounts name = (row_at mounts (mount_of mounts name)).dir

abbrev pub rest_of : List Row → Text → Text
rest_of mounts name = drop (rest_start (row_at mounts (mount_of mounts name)).alias name) name

-- the file of a secret
abbrev pub secret_path : List Row → Text → Text
secret_path mounts name = file_of (dir_of mounts name) (rest_of mounts name)

-- ---- what lies below a mount

-- what has this rest in a folder: the secret of a mount, by its alias; the file of a folder. The root folder, whose text
-- is empty, adds nothing
abbrev pub in_folder : (folder rest : Text) → Text
in_folder [] rest = rest
in_folder (b ∷ folder) rest = path_in (b ∷ folder) rest

-- the full name of a folder, by the rest of it below a mount; the mount's own folder has none
abbrev pub folder_under : (alias rest : Text) → Text
folder_under alias [] = alias
folder_under alias (b ∷ rest) = in_folder alias (b ∷ rest)

-- pass(1)'s file of recipients, and gopass's template
abbrev pub rule_file : Text
rule_file = codes ".gpg-id"

abbrev pub template_file : Text
template_file = codes ".pass-template"

-- at this rest below a mount with this alias the secret would lie
pub record IsSecretAt (alias rest name : Text) : Type 0 where
  pub stem : Text
  pub file : rest ≡ stem ++ codes ".gpg"
  pub named : name ≡ in_folder alias stem
  pub good : IsName name

-- and this file of the folder
pub record IsFolderFileAt (file alias rest folder : Text) : Type 0 where
  pub below : Text
  pub there : rest ≡ in_folder below file
  pub named : folder ≡ folder_under alias below
  pub good : IsFolder folder

-- a part of the rest begins with a dot
abbrev pub HasHidden : Text → Type 0
HasHidden rest = ¬ All (λ part. ¬ IsHidden part) (parts rest)

-- the folder's file of recipients, or its template, would lie there
abbrev pub IsRuleOrTemplate : (alias rest folder : Text) → Type 0
IsRuleOrTemplate alias rest folder = IsFolderFileAt rule_file alias rest folder ⊎ IsFolderFileAt template_file alias rest folder

-- what lies at a rest below the k-th mount: a secret, a rule or a template of this mount; one whose name belongs to
-- another mount; what has a part with a dot in front; or something strange
abbrev pub IsKind : List Row → ℕ → Text → Kind → Type 0
IsKind mounts k rest (Secret name) = IsSecretAt (row_at mounts k).alias rest name × IsMountOf mounts name k
IsKind mounts k rest (Rule folder) = IsFolderFileAt rule_file (row_at mounts k).alias rest folder × IsMountOfFolder mounts folder k
IsKind mounts k rest (Template folder) = IsFolderFileAt template_file (row_at mounts k).alias rest folder × IsMountOfFolder mounts folder k
IsKind mounts k rest Shadowed =
    ((name : Text) × IsSecretAt (row_at mounts k).alias rest name × ¬ IsMountOf mounts name k)
    ⊎ ((folder : Text) × IsRuleOrTemplate (row_at mounts k).alias rest folder × ¬ IsMountOfFolder mounts folder k)
IsKind mounts k rest Hidden = HasHidden rest × ((folder : Text) → ¬ IsRuleOrTemplate (row_at mounts k).alias rest folder)
IsKind mounts k rest Strange = (¬ HasHidden rest) × ((name : Text) → ¬ IsSecretAt (row_at mounts k).alias rest name)

-- ---- the mount of a folder, computed row by row

-- whether ps is how qs begins
abbrev pub is_prefix : List Text → List Text → Bool
is_prefix [] qs = true
is_prefix (p ∷ ps) [] = false
is_prefix (p ∷ ps) (q ∷ qs) = bytes_eq p q && is_prefix ps qs

-- whether the alias is the folder, or lies above it
abbrev pub reaches : (alias folder : Text) → Bool
reaches alias folder = is_prefix (folder_parts alias) (folder_parts folder)

-- the last of these rows whose alias reaches the folder, where the first of them has the number `at`; or else `last`
abbrev pub last_that_reaches : List Row → Text → (at last : ℕ) → ℕ
last_that_reaches [] folder at last = last
last_that_reaches (row ∷ rows) folder at last = last_that_reaches rows folder (at + 1) (if reaches row.alias folder then at else last)

-- since aliases rise, the last row whose alias reaches the folder is the one with the most parts
abbrev pub folder_mount : List Row → Text → ℕ
folder_mount rows folder = last_that_reaches rows folder 0 0

-- ---- the files of a folder

-- the rest of a folder below the mount that its alias reaches
abbrev pub folder_rest : (alias folder : Text) → Text
folder_rest [] folder = folder
folder_rest (b ∷ alias) folder = drop (length (b ∷ alias) + 1) folder

-- a file of the folder, in the k-th mount
abbrev pub folder_path : List Row → ℕ → (folder file : Text) → Text
folder_path mounts k folder file = path_in (row_at mounts k).dir (in_folder (folder_rest (row_at mounts k).alias folder) file)

-- the folder's rule, and its template
abbrev pub rule_path : List Row → ℕ → Text → Text
rule_path mounts k folder = folder_path mounts k folder rule_file

abbrev pub template_path : List Row → ℕ → Text → Text
template_path mounts k folder = folder_path mounts k folder template_file

-- the name is that of one of the two
abbrev pub IsFolderFile : Text → Type 0
IsFolderFile file = (file ≡ rule_file) ⊎ (file ≡ template_file)

-- the folder belongs to the k-th mount
abbrev pub IsFolderOf : List Row → ℕ → Text → Type 0
IsFolderOf mounts k folder = IsFolder folder × IsMountOfFolder mounts folder k
