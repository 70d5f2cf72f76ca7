-- Why a text is no name or no folder, computed part by part.
use Rattle.std.specs.Prelude.{ℕ, ◌+◌, ◌==◌, Bool, true, false, not, ◌&&◌, List, [], ◌∷◌, length, slice_index, codes, bytes_eq, nat_eq, nat_le, nat_lt, Option, Some, None, if◌then◌else◌}
use Rattle.std.specs.List.{list_all, ends_with}
use Rattle.gopass_base.specs.Text.{Text}
use Rattle.gopass_base.specs.Parts.{parts}
use Rattle.mount_table.specs.Folders.{without_slash}
use Rattle.mount_table.specs.declared.name.NameKind.{NameKind}
use Rattle.mount_table.specs.declared.name.NameKind.TheVariants.{Empty, Dots, Control, LongPart, LongName, ManyParts, FolderGpg}
use Rattle.mount_table.specs.declared.name.BadName.{BadName}

-- whether it is neither a control byte nor DEL
abbrev pub is_printable : ℕ → Bool
is_printable b = nat_le 32 b && not (b == 127)

-- the first of these that applies to the part of this number, counted from 0
abbrev pub kind_of_part : (number : ℕ) → (is_folder : Bool) → Text → Option NameKind
kind_of_part number is_folder part =
    if nat_le 16 number then Some ManyParts
    else if length part == 0 then Some Empty
    else if slice_index part 0 == 46 then Some Dots
    else if not (list_all is_printable part) then Some Control
    else if nat_lt 100 (length part) then Some LongPart
    else if is_folder && ends_with nat_eq part (codes ".gpg") then Some FolderGpg
    else None

-- what is wrong with the part that begins at this byte, or else what is wrong behind it
abbrev pub fault_or : (at : ℕ) → Option NameKind → Option BadName → Option BadName
fault_or at (Some kind) behind = Some (record { at = at; kind = kind })
fault_or at None behind = behind

-- the first fault of these parts, the first of which has this number and begins at this byte; each part but the last of the
-- name of a secret is a folder, and has a slash behind it
abbrev pub first_fault : (is_secret : Bool) → (number at : ℕ) → List Text → Option BadName
first_fault is_secret number at [] = None
first_fault is_secret number at (part ∷ texts) =
    fault_or at (kind_of_part number (not (is_secret && (length texts == 0))) part) (first_fault is_secret (number + 1) (at + length part + 1) texts)

-- a text of more than 400 bytes is too long at its byte 400; a shorter one has the first fault of its parts
abbrev pub fault_of : (is_secret : Bool) → Text → Option BadName
fault_of is_secret text = if nat_lt 400 (length text) then Some (record { at = 400; kind = LongName }) else first_fault is_secret 0 0 (parts text)

-- why a text is not the name of a secret
abbrev pub name_fault : Text → Option BadName
name_fault text = fault_of true text

-- why a text names no folder; a slash alone names the root folder
abbrev pub folder_fault : Text → Option BadName
folder_fault text = if bytes_eq text (codes "/") then None else fault_of false (without_slash text)
