-- The mount of a name, computed row by row.
use Rattle.std.specs.Prelude.{ℕ, ◌+◌, Bool, true, false, ◌&&◌, List, [], ◌∷◌, bytes_eq, if◌then◌else◌}
use Rattle.gopass_base.specs.Text.{Text}
use Rattle.gopass_base.specs.Parts.{parts}
use Rattle.mount_table.specs.Prefixes.{folder_parts}
use Rattle.mount_table.specs.declared.mounts.Row.{Row}

-- whether ps is how qs begins, and qs has more
abbrev pub is_proper_prefix : List Text → List Text → Bool
is_proper_prefix ps [] = false
is_proper_prefix [] (q ∷ qs) = true
is_proper_prefix (p ∷ ps) (q ∷ qs) = bytes_eq p q && is_proper_prefix ps qs

-- whether the secret lies in the folder, or in one below it
abbrev pub holds : Text → Text → Bool
holds folder name = is_proper_prefix (folder_parts folder) (parts name)

-- the last of these rows whose alias holds the name, where the first of them has the number `at`; or else `last`
abbrev pub last_that_holds : List Row → Text → (at last : ℕ) → ℕ
last_that_holds [] name at last = last
last_that_holds (row ∷ rows) name at last = last_that_holds rows name (at + 1) (if holds row.alias name then at else last)

-- since aliases rise, the last row whose alias holds the name is the one with the most parts
abbrev pub mount_of : List Row → Text → ℕ
mount_of rows name = last_that_holds rows name 0 0
