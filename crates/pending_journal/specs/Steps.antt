-- The lines of a journal, one after another.
use Rattle.std.specs.Prelude.{◌≡◌, ◌⊎◌, [], ◌∷◌, ◌++◌, codes}
use Rattle.gopass_base.specs.Text.{Text}
use Rattle.gopass_base.specs.declared.path.PathFault.{PathFault}
use Rattle.gopass_base.specs.declared.path.PathFault.TheVariants as path
use Rattle.pending_journal.specs.Journal.{JournalPlan, put_lines, drop_lines}
use Rattle.pending_journal.specs.declared.change.ChangeAddFault.{ChangeAddFault}
use Rattle.pending_journal.specs.declared.change.ChangeAddFault.TheVariants.{TwoForOne, Service, Long, NoMemory as NoRoom}
use Rattle.pending_journal.specs.declared.read.LineFault.{LineFault}
use Rattle.pending_journal.specs.declared.read.LineFault.TheVariants.{Bad, NoMemory}

-- a path more that is put, or dropped
abbrev pub with_put : JournalPlan → Text → JournalPlan
with_put plan path = record { puts = plan.puts ++ path ∷ []; drops = plan.drops }

abbrev pub with_drop : JournalPlan → Text → JournalPlan
with_drop plan path = record { puts = plan.puts; drops = plan.drops ++ path ∷ [] }

-- the line adds a path. No put stands behind a drop
abbrev pub IsStep : JournalPlan → Text → JournalPlan → Type 0
IsStep old line new =
    ((path : Text) × (line ≡ codes "put\t" ++ path) × (old.drops ≡ []) × (new ≡ with_put old path))
    ⊎ ((path : Text) × (line ≡ codes "drop\t" ++ path) × (new ≡ with_drop old path))

-- the text that begins with the lines of these paths
abbrev pub journal_start : JournalPlan → Text → Text
journal_start plan rest = codes "journal 1\n" ++ put_lines plan.puts (drop_lines plan.drops rest)

-- what a text that is no path makes of its line, and a path that may not be added
abbrev pub fault_of_path : PathFault → LineFault
fault_of_path path.Bad = Bad
fault_of_path path.NoMemory = NoMemory

abbrev pub fault_of_step : ChangeAddFault → LineFault
fault_of_step TwoForOne = Bad
fault_of_step Service = Bad
fault_of_step Long = Bad
fault_of_step NoRoom = NoMemory
