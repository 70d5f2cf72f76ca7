-- Lists of files with their paths.
use Rattle.std.specs.Prelude.{ℕ, Bool, not, List, map, Vec, Option, None, Some}
use Rattle.std.specs.Ordering.{nat_cmp, eq_by_cmp}
use Rattle.std.specs.Cmp.Lexicographic.{slice_cmp}
use Rattle.std.specs.FinMap.{find, put, is_sorted}
use Rattle.std.specs.FinMap.Entries.{where_key}
use Rattle.gopass_base.specs.Text.{Text}
use Rattle.disk_model.specs.Files.{Files}

-- paths with their bytes
abbrev pub Entries : Type 0
Entries = List (Text × Text)

abbrev pub entry_of : {A : Type 0} → Text × Vec ℕ A → Text × Text
entry_of file = (file.0, file.1.items)

-- the texts and bytes of what code holds
abbrev pub entries_of : {A : Type 0} → List (Text × Vec ℕ A) → Entries
entries_of files = map entry_of files

-- the files of a list: at each path the first entry's bytes
abbrev pub files_of : Entries → Files
files_of entries path = find (slice_cmp nat_cmp) path entries

-- in rising order of the paths, each once
abbrev pub is_rising : Entries → Bool
is_rising entries = is_sorted (slice_cmp nat_cmp) entries

-- with this file in its place
abbrev pub with_entry : Text → Text → Entries → Entries
with_entry path bytes entries = put (slice_cmp nat_cmp) path bytes entries

-- without the file of this path
abbrev pub without_entry : Text → Entries → Entries
without_entry path entries = where_key (slice_cmp nat_cmp) (λ q. not (eq_by_cmp (slice_cmp nat_cmp) path q)) entries

-- the file that was under `from` stands under `to`, whatever stood there
abbrev pub moved_to : Option Text → Text → Text → Entries → Entries
moved_to None from to entries = entries
moved_to (Some bytes) from to entries = with_entry to bytes (without_entry from entries)

-- with the file under `from` moved, where there is one
abbrev pub moved_entry : Text → Text → Entries → Entries
moved_entry from to entries = moved_to (files_of entries from) from to entries
