-- A disk in memory.
use Rattle.std.specs.Prelude.{◌≡◌, ℕ, ◌≤◌, Bool, true, ◌&&◌, ◌-◌, ◌^◌, Vec, IsTrue, List, [], ◌∷◌, ◌++◌}
use Rattle.std.proofs.Common.{refl, subst, arith}
use Rattle.std.proofs.Math.Dec.{ltb}
use Rattle.gopass_base.specs.Text.{Text}
use Rattle.gopass_base.specs.Calls.{Calls, next_calls}
use Rattle.disk_model.specs.Disk.{View, IsSound, with_limit}
use Rattle.disk_model.specs.Entries.{Entries, entries_of, files_of, is_rising}
use Rattle.disk_model.specs.declared.act.Act.{Act as Held}
use Rattle.disk_model.specs.Acts.{Act, Log, log_of, before, entries_made, files_after, entries_after, Images, now_image}

-- the files that it began with, its files, what it did, its calls, the sum of the limits that were named, and whether the
-- lock is had
pub record MemoryDisk : Type 0 where
  pub start : Entries
  pub entries : Entries
  pub log : Log
  pub calls : Calls
  pub asked : ℕ
  pub held : Bool

-- what code holds
abbrev pub memory_of : {A : Type 0} → List (Text × Vec ℕ A) → List (Text × Vec ℕ A) → List (ℕ × Held) → Calls → ℕ → Bool → MemoryDisk
memory_of start files log calls asked held = record { start = entries_of start; entries = entries_of files; log = log_of log; calls = calls; asked = asked; held = held }

-- all that it did so far
abbrev pub acts_of : MemoryDisk → List Act
acts_of disk = before disk.calls.made disk.log

-- what it shows. Its moment is the number of calls
abbrev pub view_of : MemoryDisk → View
view_of disk = record {
  files = files_after (acts_of disk) (files_of disk.start);
  images = Images (files_of disk.start) (acts_of disk);
  moment = disk.calls.made;
  left_since = λ t m. (k : ℕ) × (t ≤ k) × (k ≤ disk.calls.made) × Images (files_of disk.start) (before k disk.log) m;
}

-- after a call that changed nothing
abbrev pub rested : MemoryDisk → MemoryDisk
rested disk = record disk { calls = next_calls disk.calls }

-- after a call that named a limit and changed nothing
abbrev pub asked_up_to : ℕ → MemoryDisk → MemoryDisk
asked_up_to limit disk = record (rested disk) { asked = with_limit limit disk.asked }

-- after a call that gave the lock
abbrev pub taken : MemoryDisk → MemoryDisk
taken disk = record (rested disk) { held = true }

-- after a call that did this
abbrev pub did : Act → MemoryDisk → MemoryDisk
did act disk = record disk {
  entries = entries_made act disk.entries;
  log = disk.log ++ (disk.calls.made, act) ∷ [];
  calls = next_calls disk.calls;
}

-- each act is of one of the first k calls
abbrev pub is_past : ℕ → Log → Bool
is_past k [] = true
is_past k (e ∷ log) = ltb e.0 k && is_past k log

-- its calls are counted in 64 bits, each act of its log is of a call that was made, the files that it began with and
-- its files are in rising order, and these are what its acts make of those
pub record IsRecorded (disk : MemoryDisk) : Type 0 where
  pub bound : disk.calls.made ≤ 2 ^ 64 - 1
  pub past : IsTrue (is_past disk.calls.made disk.log)
  pub start : IsTrue (is_rising disk.start)
  pub rising : IsTrue (is_rising disk.entries)
  pub entries : disk.entries ≡ entries_after (acts_of disk) disk.start

-- the files are always one of the images
pub view_sound : (disk : MemoryDisk) → IsSound (view_of disk)
view_sound disk = record {
  now = now_image (acts_of disk) (files_of disk.start) (λ m. m ≡ files_of disk.start) refl;
  counts_now = λ t m le im. (disk.calls.made, le, omega arith, im);
  only_now = λ m (k, le, most, im). (
      let same : k ≡ disk.calls.made = omega arith in
      subst (λ (n : ℕ). Images (files_of disk.start) (before n disk.log) m) same im
      );
}
