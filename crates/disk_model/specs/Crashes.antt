-- Which image a crash of a disk in memory leaves.
use Rattle.std.specs.Prelude.{◌/◌, Bool, true, not, List, [], ◌∷◌, length, take, if◌then◌else◌}
use Rattle.disk_model.specs.Entries.{Entries, entries_of}
use Rattle.disk_model.specs.Acts.{Act, Write, Rename, Remove, Sync, entries_made}
use Rattle.disk_model.specs.declared.crash.Pick.{Pick}
use Rattle.disk_model.specs.declared.crash.Pick.TheVariants as pick
use Rattle.disk_model.specs.declared.crash.Replay.{Replay as Held}

-- of a write only the first half of its bytes, rounded down
abbrev pub torn : Act → Act
torn (Write path bytes) = Write path (take (length bytes / 2) bytes)
torn (Rename from to) = Rename from to
torn (Remove path) = Remove path
torn Sync = Sync

-- what a crash leaves with one step more, by whether it is the first, the third, .. since the last sync
abbrev pub left_by : Pick → Bool → Act → Entries → Entries
left_by pick.None is_odd step left = left
left_by pick.All is_odd step left = entries_made step left
left_by pick.Even is_odd step left = if is_odd then entries_made step left else left
left_by pick.Torn is_odd step left = entries_made (torn step) left

-- how far a log is read: the files, what of them a crash leaves, and whether the next step is the
-- first, the third, .. since the last sync
pub record Replay : Type 0 where
  pub files : Entries
  pub left : Entries
  pub is_odd : Bool

-- with one act more: a sync leaves the files
abbrev pub replay_one : Pick → Act → Replay → Replay
replay_one pick Sync r = record { files = r.files; left = r.files; is_odd = true }
replay_one pick e r = record { files = entries_made e r.files; left = left_by pick r.is_odd e r.left; is_odd = not r.is_odd }

abbrev pub replay_all : Pick → List Act → Replay → Replay
replay_all pick [] r = r
replay_all pick (e ∷ es) r = replay_all pick es (replay_one pick e r)

-- nothing is read yet
abbrev pub replay_start : Entries → Replay
replay_start start = record { files = start; left = start; is_odd = true }

-- what a crash leaves after these acts: the files at the last sync, with those of the later steps
-- that are picked
abbrev pub picked : Pick → Entries → List Act → Entries
picked pick start acts = (replay_all pick acts (replay_start start)).left

-- what code holds
abbrev pub reading_of : Held → Replay
reading_of r = record { files = entries_of r.files.items; left = entries_of r.left.items; is_odd = r.is_odd }
