-- What the listings of all mounts have.
use Rattle.std.specs.Prelude.{◌≡◌, ◌↔◌, ℕ, ◌<◌, List, length, slice_index_or, Contains}
use Rattle.gopass_base.specs.Text.{Text}
use Rattle.mount_table.specs.Mounts.{row_at}
use Rattle.mount_table.specs.declared.mounts.Row.{Row}
use Rattle.disk_model.specs.Files.{Files}
use Rattle.disk_model.specs.Listing.{LiesIn, IsThere}
use Rattle.store_state.specs.declared.kind.Kind.{Kind}
use Rattle.store_state.specs.declared.seen.Seen.{Seen}
use Rattle.store_state.specs.Found.{LiesAs, GivesName, GivesRule, GivesTemplate, GivesStrange, GivesShadowed, AddsPaths}
use Rattle.store_state.specs.Tree.{IsTree, IsFullTree, tree_files}

-- one mount was listed: its paths were added, and they are so many
abbrev pub IsMountSeen : (root : Text) → Files → List Row → ℕ → (old new : Seen) → ℕ → Type 0
IsMountSeen root files mounts k old new count =
    (paths : List Text) × IsTree root files (row_at mounts k).dir paths × AddsPaths mounts k paths old new × (count ≡ length paths)

-- the list has just what the files below the first n mounts give
abbrev pub IsOfFiles : (Kind → Text → Text → Type 0) → (root : Text) → Files → List Row → ℕ → List Text → Type 0
IsOfFiles Gives root files mounts n list =
    (x : Text) → Contains list x ↔ ((k : ℕ) × (path : Text) × (kind : Kind) × (k < n) × LiesIn (row_at mounts k).dir path × IsThere (tree_files root files) path × LiesAs mounts k kind path × Gives kind path x)

-- the first n mounts were listed
pub record IsSeen (root : Text) (files : Files) (mounts : List Row) (n : ℕ) (seen : Seen) : Type 0 where
  pub names : IsOfFiles GivesName root files mounts n seen.names.items
  pub rules : IsOfFiles GivesRule root files mounts n seen.rules.items
  pub templates : IsOfFiles GivesTemplate root files mounts n seen.templates.items
  pub strange : IsOfFiles GivesStrange root files mounts n seen.strange.items
  pub shadowed : IsOfFiles GivesShadowed root files mounts n seen.shadowed.items

-- so many files count below the directory of the k-th mount
abbrev pub IsCountOf : (root : Text) → Files → List Row → ℕ → ℕ → Type 0
IsCountOf root files mounts k count = (paths : List Text) × IsTree root files (row_at mounts k).dir paths × (count ≡ length paths)

-- all mounts were listed, and these are the numbers of their files
pub record IsSurvey (root : Text) (files : Files) (mounts : List Row) (seen : Seen) (counts : List ℕ) : Type 0 where
  pub found : IsSeen root files mounts (length mounts) seen
  pub as_many : length counts ≡ length mounts
  pub each : (k : ℕ) → k < length mounts → IsCountOf root files mounts k (slice_index_or counts k 0)

-- a mount has too many files, and none before it has
pub record IsFullMount (root : Text) (files : Files) (mounts : List Row) : Type 0 where
  pub row : ℕ
  pub inside : row < length mounts
  pub full : IsFullTree root files (row_at mounts row).dir
  pub before : (k : ℕ) → k < row → (count : ℕ) × IsCountOf root files mounts k count
