-- The tree of the secrets in a folder: each secret prints its last part on a line, and before it a line for each of its folders that
-- the line before was not inside.
use Rattle.std.specs.Prelude.{ℕ, ◌+◌, ◌-◌, List, [], ◌∷◌, ◌++◌, length, drop, codes, bytes_eq, if◌then◌else◌}
use Rattle.std.specs.List.{repeat}
use Rattle.gopass_base.specs.Text.{Text}
use Rattle.gopass_base.specs.Parts.{parts}
use Rattle.mount_table.specs.Names.{folders}
use Rattle.mount_table.specs.NameFaults.{part_at}
use Rattle.mount_table.specs.Prefixes.{folder_parts}

-- the parts of a name behind those of the folder that holds it
abbrev pub below : Text → Text → List Text
below folder name = drop (length (folder_parts folder)) (parts name)

-- the last of these parts
abbrev pub last_part : List Text → Text
last_part texts = part_at texts (length texts - 1)

-- how many parts two lists have in common at their start
abbrev pub common : List Text → List Text → ℕ
common [] qs = 0
common (p ∷ ps) [] = 0
common (p ∷ ps) (q ∷ qs) = if bytes_eq p q then common ps qs + 1 else 0

-- a line: two spaces for each folder above, the text, and a line feed
abbrev pub tree_line : ℕ → Text → Text
tree_line depth text = repeat depth (codes "  ") ++ (text ++ 10 ∷ [])

-- the line of a folder ends in a slash
abbrev pub folder_line : ℕ → Text → Text
folder_line depth folder = tree_line depth (folder ++ 47 ∷ [])

-- a line for each of these folders, each of which lies in the one before
abbrev pub folder_lines : ℕ → List Text → Text
folder_lines depth [] = []
folder_lines depth (folder ∷ more) = folder_line depth folder ++ folder_lines (depth + 1) more

-- the lines of a secret of these parts: those of its folders that the line before was not inside, and its own
abbrev pub secret_lines : (inside texts : List Text) → Text
secret_lines inside texts =
    let shared = common inside (folders texts) in
    folder_lines shared (drop shared (folders texts)) ++ tree_line (length (folders texts)) (last_part texts)

-- the lines of these names, where the line before was inside these folders
abbrev pub tree_below : Text → (inside : List Text) → (names : List Text) → Text
tree_below folder inside [] = []
tree_below folder inside (name ∷ names) = secret_lines inside (below folder name) ++ tree_below folder (folders (below folder name)) names

-- the tree of these names, all of which the folder holds
abbrev pub tree_of : Text → List Text → Text
tree_of folder names = tree_below folder [] names
