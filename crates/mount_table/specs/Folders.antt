-- Folders of secrets are texts of parts, as names are; the root folder has none.
use Rattle.std.specs.Prelude.{◌==◌, ◌-◌, ◌≤◌, false, length, take, slice_index, All, if◌then◌else◌}
use Rattle.gopass_base.specs.Text.{Text}
use Rattle.gopass_base.specs.Parts.{IsSealedName}
use Rattle.mount_table.specs.Names.{IsNamePart}
use Rattle.mount_table.specs.Prefixes.{folder_parts}
use Rattle.mount_table.specs.NameFaults.{IsFault}
use Rattle.mount_table.specs.declared.name.BadName.{BadName}

-- a folder: at most 400 bytes, at most 16 parts, and none of them looks like a file
pub record IsFolder (text : Text) : Type 0 where
  pub short : length text ≤ 400
  pub few : length (folder_parts text) ≤ 16
  pub each : All IsNamePart (folder_parts text)
  pub above : All (λ part. ¬ IsSealedName part) (folder_parts text)

-- a text without one slash at its end
abbrev pub without_slash : Text → Text
without_slash text = if slice_index text (length text - 1) == 47 then take (length text - 1) text else text

-- words for a folder: its text, which may have a slash behind it; and a slash alone for the root folder
pub record IsFolderText (text : Text) : Type 0 where
  pub some : 1 ≤ length text
  pub folder : IsFolder (without_slash text)

-- why a text names no folder, and where
abbrev pub IsFolderFault : Text → BadName → Type 0
IsFolderFault text bad = IsFault false (without_slash text) bad
