-- What lies in a folder or a directory, by parts.
use Rattle.std.specs.Prelude.{◌≡◌, ◌⊎◌, ℕ, List, [], ◌∷◌, ◌++◌, length}
use Rattle.gopass_base.specs.Text.{Text}
use Rattle.gopass_base.specs.Parts.{parts}
use Rattle.mount_table.specs.NameFaults.{start_of}

-- the parts of a folder between the slashes; the root folder, whose text is empty, has none
abbrev pub folder_parts : Text → List Text
folder_parts [] = []
folder_parts (b ∷ text) = parts (b ∷ text)

-- ps is how qs begins
abbrev pub IsPrefix : List Text → List Text → Type 0
IsPrefix ps qs = (rest : List Text) × (qs ≡ ps ++ rest)

-- ps is how qs begins, and qs has more
abbrev pub IsProperPrefix : List Text → List Text → Type 0
IsProperPrefix ps qs = (next : Text) × (rest : List Text) × (qs ≡ ps ++ next ∷ rest)

-- the secret lies in the folder, or in one below it
abbrev pub Holds : Text → Text → Type 0
Holds folder name = IsProperPrefix (folder_parts folder) (parts name)

-- the byte of a name where the rest begins, behind the parts of a folder that holds it
abbrev pub rest_start : Text → Text → ℕ
rest_start folder name = start_of (parts name) (length (folder_parts folder))

-- of two directories, one is the other or lies in it
abbrev pub Nest : Text → Text → Type 0
Nest a b = IsPrefix (parts a) (parts b) ⊎ IsPrefix (parts b) (parts a)
