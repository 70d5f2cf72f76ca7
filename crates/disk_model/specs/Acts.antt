-- What a disk in memory did, and what a crash at each moment may leave.
use Rattle.std.specs.Prelude.{◌≡◌, ◌⊎◌, ℕ, List, [], ◌∷◌, map, None, Some, if◌then◌else◌}
use Rattle.std.proofs.Common.{inr, refl}
use Rattle.std.proofs.Math.Dec.{ltb}
use Rattle.gopass_base.specs.Text.{Text}
use Rattle.disk_model.specs.Files.{Files, put, moved, Writes, Moves, Drops}
use Rattle.disk_model.specs.Entries.{Entries, with_entry, without_entry, moved_entry}
use Rattle.disk_model.specs.declared.act.Act.{Act as Held}
use Rattle.disk_model.specs.declared.act.Act.TheVariants as held

-- a step that was made, or a sync
pub data Act : Type 0 where
  Write : Text → Text → Act
  Rename : Text → Text → Act
  Remove : Text → Act
  Sync : Act

-- the acts, each with the number of its call
abbrev pub Log : Type 0
Log = List (ℕ × Act)

-- the acts of the first k calls
abbrev pub before : ℕ → Log → List Act
before k [] = []
before k (e ∷ log) = if ltb e.0 k then e.1 ∷ before k log else before k log

-- ---- the files

-- the files after an act
abbrev pub made : Act → Files → Files
made (Write path bytes) files = put files path (Some bytes)
made (Rename from to) files = moved from to files
made (Remove path) files = put files path None
made Sync files = files

-- the files after these acts
abbrev pub files_after : List Act → Files → Files
files_after [] files = files
files_after (e ∷ es) files = files_after es (made e files)

-- the same of a list of files
abbrev pub entries_made : Act → Entries → Entries
entries_made (Write path bytes) entries = with_entry path bytes entries
entries_made (Rename from to) entries = moved_entry from to entries
entries_made (Remove path) entries = without_entry path entries
entries_made Sync entries = entries

abbrev pub entries_after : List Act → Entries → Entries
entries_after [] entries = entries
entries_after (e ∷ es) entries = entries_after es (entries_made e entries)

-- ---- the images

-- what a crash may make of an act that no sync follows
abbrev pub CrashMakes : Act → Files → Files → Type 0
CrashMakes (Write path bytes) = Writes path
CrashMakes (Rename from to) = Moves from to
CrashMakes (Remove path) = Drops path
CrashMakes Sync = λ old new. ⊥

-- the images after an act, by the files and the images before it: a sync leaves the files alone,
-- and after a step each image is still one, with the step and without it
abbrev pub Next : Act → Files → (Files → Type 0) → Files → Type 0
Next Sync files I new = new ≡ files
Next e files I new = I new ⊎ ((old : Files) × I old × CrashMakes e old new)

abbrev pub ImagesAfter : List Act → Files → (Files → Type 0) → Files → Type 0
ImagesAfter [] files I = I
ImagesAfter (e ∷ es) files I = ImagesAfter es (made e files) (Next e files I)

-- the images after these acts of a disk that began with the files, and with no other image
abbrev pub Images : Files → List Act → Files → Type 0
Images start acts = ImagesAfter acts start (λ m. m ≡ start)

-- ---- the files are always one of the images

made_image : (e : Act) (files : Files) (I : Files → Type 0) → I files → Next e files I (made e files)
made_image (Write path bytes) files I here = inr (files, here, (bytes, refl))
made_image (Rename from to) files I here = inr (files, here, refl)
made_image (Remove path) files I here = inr (files, here, refl)
made_image Sync files I here = refl

pub now_image : (es : List Act) (files : Files) (I : Files → Type 0) → I files → ImagesAfter es files I (files_after es files)
now_image [] files I here = here
now_image (e ∷ es) files I here = now_image es (made e files) (Next e files I) (made_image e files I here)

-- ---- what code holds

abbrev pub act_of : Held → Act
act_of (held.Write path bytes) = Write path bytes.items
act_of (held.Rename from to) = Rename from to
act_of (held.Remove path) = Remove path
act_of held.Sync = Sync

abbrev pub numbered : ℕ × Held → ℕ × Act
numbered e = (e.0, act_of e.1)

abbrev pub log_of : List (ℕ × Held) → Log
log_of log = map numbered log
