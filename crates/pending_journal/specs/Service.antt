-- The files that a vault keeps for itself in the root directory.
use Rattle.std.specs.Prelude.{Bool, false, not, ◌||◌, bytes_eq, codes, filter, List, Option, None, Some, if◌then◌else◌}
use Rattle.gopass_base.specs.Text.{Text}
use Rattle.gopass_base.specs.Paths.{path_in, service_text}
use Rattle.gopass_base.specs.declared.service.ServiceFile.TheVariants.{Journal}
use Rattle.disk_model.specs.Files.{Files}
use Rattle.disk_model.specs.Listing.{lies_in, rest_in}

-- the journal, its new text, and the directory of the stage
abbrev pub journal_path : Text → Text
journal_path root = path_in root (service_text Journal)

abbrev pub fresh_path : Text → Text
fresh_path root = path_in root (codes ".gopass-journal.new")

abbrev pub stage_dir : Text → Text
stage_dir root = path_in root (codes ".gopass-stage")

-- what stands behind the root directory names the journal, its new text, or what lies in the stage
abbrev pub is_service_rest : Option Text → Bool
is_service_rest None = false
is_service_rest (Some rest) = bytes_eq rest (codes ".gopass-journal") || (bytes_eq rest (codes ".gopass-journal.new") || lies_in (codes ".gopass-stage") rest)

abbrev pub is_service : Text → Text → Bool
is_service root path = is_service_rest (rest_in root path)

-- the files but these
abbrev pub without_service : Text → Files → Files
without_service root files path = if is_service root path then None else files path

-- those of the paths that are none of these
abbrev pub others : Text → List Text → List Text
others root paths = filter (λ path. not (is_service root path)) paths
