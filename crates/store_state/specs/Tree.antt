-- The files below a mount's directory.
use Rattle.std.specs.Prelude.{◌≡◌, ◌<◌, ◌≤◌, Bool, ◌||◌, not, bytes_eq, filter, List, length, None, if◌then◌else◌}
use Rattle.gopass_base.specs.Text.{Text}
use Rattle.gopass_base.specs.Paths.{path_in, service_text}
use Rattle.gopass_base.specs.declared.service.ServiceFile.TheVariants.{Mounts, Pending}
use Rattle.disk_model.specs.Files.{Files}
use Rattle.disk_model.specs.Listing.{IsListing}
use Rattle.pending_journal.specs.Service.{without_service}
use Rattle.store_state.specs.Limits.{most_files}
use Rattle.store_state.specs.declared.tree.Own.{Own}

-- the path of the mounts file, or that of the pending file
abbrev pub is_own : Text → Text → Bool
is_own root path = bytes_eq path (path_in root (service_text Mounts)) || bytes_eq path (path_in root (service_text Pending))

-- the files but those that the store keeps for itself
abbrev pub tree_files : Text → Files → Files
tree_files root files path = if is_own root path then None else without_service root files path

-- those of the paths that are neither of the two
abbrev pub others_than : (mounts pending : Text) → List Text → List Text
others_than mounts pending paths = filter (λ path. not (bytes_eq path mounts || bytes_eq path pending)) paths

-- the two paths of the store below a root directory
pub record IsOwnOf (root : Text) (own : Own) : Type 0 where
  pub mounts_is : own.mounts ≡ path_in root (service_text Mounts)
  pub pending_is : own.pending ≡ path_in root (service_text Pending)

-- the paths below a directory, where they are not too many
pub record IsTree (root : Text) (files : Files) (dir : Text) (paths : List Text) : Type 0 where
  pub listing : IsListing (tree_files root files) dir paths
  pub few : length paths ≤ most_files

-- they are too many
abbrev pub IsFullTree : Text → Files → Text → Type 0
IsFullTree root files dir = (paths : List Text) × IsListing (tree_files root files) dir paths × (most_files < length paths)
