-- Paths of the disk are texts of parts, with a slash between them.
use Rattle.std.specs.Prelude.{◌≢◌, ◌≤◌, ◌∷◌, ◌++◌, length, codes, All}
use Rattle.gopass_base.specs.Text.{Text, IsPrintable}
use Rattle.gopass_base.specs.Parts.{parts, IsHidden, IsSealedName}
use Rattle.gopass_base.specs.declared.service.ServiceFile.{ServiceFile}
use Rattle.gopass_base.specs.declared.service.ServiceFile.TheVariants.{Journal, Mounts, Pending}

-- a part of a path: 1 to 255 printable bytes, and neither `.` nor `..`
pub record IsPathPart (part : Text) : Type 0 where
  pub some : 1 ≤ length part
  pub short : length part ≤ 255
  pub no_dot : part ≢ codes "."
  pub no_dots : part ≢ codes ".."
  pub printable : All IsPrintable part

-- the path of a file: at most 1,000 bytes and 32 parts
pub record IsFilePath (text : Text) : Type 0 where
  pub short : length text ≤ 1000
  pub few : length (parts text) ≤ 32
  pub each : All IsPathPart (parts text)

-- the path of a directory: at most 500 bytes and 12 parts, none of which is hidden or looks like the file of a secret
pub record IsDirPath (text : Text) : Type 0 where
  pub path : IsFilePath text
  pub short : length text ≤ 500
  pub few : length (parts text) ≤ 12
  pub plain : All (λ part. ¬ IsHidden part) (parts text)
  pub open_ : All (λ part. ¬ IsSealedName part) (parts text)

-- the path of what lies in a directory
abbrev pub path_in : Text → Text → Text
path_in dir rest = dir ++ 47 ∷ rest

-- the file of a secret, by the rest of its name in a directory
abbrev pub file_of : Text → Text → Text
file_of dir rest = path_in dir (rest ++ codes ".gpg")

-- the names of the journal, the mounts file and the pending file in the root directory
abbrev pub service_text : ServiceFile → Text
service_text Journal = codes ".gopass-journal"
service_text Mounts = codes ".gopass-mounts"
service_text Pending = codes ".gopass-pending"
