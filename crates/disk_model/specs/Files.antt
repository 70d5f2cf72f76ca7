-- What a disk holds.
use Rattle.std.specs.Prelude.{◌≡◌, Option, None, Some, bytes_eq, if◌then◌else◌}
use Rattle.gopass_base.specs.Text.{Text}

-- at each path the bytes of its file, or nothing
abbrev pub Files : Type 0
Files = Text → Option Text

-- the files with this at the path, and all else as it is
unfoldable pub put : Files → Text → Option Text → Files
put files path file q = if bytes_eq path q then file else files q

-- the file that was under `from` stands under `to`, whatever stood there
abbrev pub moved_file : Option Text → Text → Text → Files → Files
moved_file None from to files = files
moved_file (Some bytes) from to files = put (put files from None) to (Some bytes)

-- the files after a rename: where there is none under `from` nothing moves
unfoldable pub moved : Text → Text → Files → Files
moved from to files = moved_file (files from) from to files

-- what a crash may make of a step that was begun: a write may leave any bytes, and the others are made
abbrev pub Writes : Text → Files → Files → Type 0
Writes path old new = (bytes : Text) × (new ≡ put old path (Some bytes))

abbrev pub Moves : Text → Text → Files → Files → Type 0
Moves from to old new = new ≡ moved from to old

abbrev pub Drops : Text → Files → Files → Type 0
Drops path old new = new ≡ put old path None
