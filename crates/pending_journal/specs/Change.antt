-- A change of many files.
use Rattle.std.specs.Prelude.{◌≡◌, ◌<◌, ◌≤◌, false, true, List, [], ◌∷◌, length, Contains, Option, None, Some, Result, Ok, Err, bytes_eq, if◌then◌else◌}
use Rattle.gopass_base.specs.Text.{Text, is_among}
use Rattle.disk_model.specs.Files.{Files}
use Rattle.pending_journal.specs.Service.{is_service}
use Rattle.pending_journal.specs.Journal.{JournalPlan, paths_of, most_steps}
use Rattle.pending_journal.specs.Built.{plan_by}
use Rattle.pending_journal.specs.declared.put.Put.{Put}
use Rattle.pending_journal.specs.declared.change.Change.{Change}
use Rattle.pending_journal.specs.declared.change.ChangeAddFault.{ChangeAddFault}
use Rattle.pending_journal.specs.declared.change.ChangeAddFault.TheVariants.{TwoForOne, Service, Long, NoMemory}

-- the paths of its puts and drops
abbrev pub plan_in : Change → JournalPlan
plan_in change = plan_by change.puts.items change.drops.items

-- a file and its bytes
abbrev pub contents_of : List Put → List (Text × Text)
contents_of [] = []
contents_of (put ∷ puts) = (put.path, put.bytes.items) ∷ contents_of puts

-- the files that it puts
abbrev pub puts_in : Change → List (Text × Text)
puts_in change = contents_of change.puts.items

-- what the puts leave at a path
abbrev pub put_at : List (Text × Text) → Text → Option Text → Option Text
put_at [] path here = here
put_at (put ∷ puts) path here = if bytes_eq put.0 path then Some put.1 else put_at puts path here

-- the files with each put and drop made
unfoldable pub changed : Change → Files → Files
changed change files path = if is_among change.drops.items path then None else put_at (puts_in change) path (files path)

-- the same puts and drops for the same root
pub record IsSameChange (old new : Change) : Type 0 where
  pub root : new.root ≡ old.root
  pub puts : new.puts.items ≡ old.puts.items
  pub drops : new.drops.items ≡ old.drops.items

-- a path may be added where no step has it, it is none of the vault's own, and there is room for a step more. The refusals
-- stand in this order, and want of memory comes after them
abbrev pub MayAdd : (root : Text) → JournalPlan → Text → {T : Type 0} → Result T ChangeAddFault → Type 0
MayAdd root plan path (Ok done) = (¬ Contains (paths_of plan) path) × (is_service root path ≡ false) × (length (paths_of plan) < most_steps)
MayAdd root plan path (Err TwoForOne) = Contains (paths_of plan) path
MayAdd root plan path (Err Service) = (¬ Contains (paths_of plan) path) × (is_service root path ≡ true)
MayAdd root plan path (Err Long) = (¬ Contains (paths_of plan) path) × (is_service root path ≡ false) × (most_steps ≤ length (paths_of plan))
MayAdd root plan path (Err NoMemory) = (¬ Contains (paths_of plan) path) × (is_service root path ≡ false) × (length (paths_of plan) < most_steps)

-- a refusal as an answer
abbrev pub as_result : Option ChangeAddFault → Result (Unit {0}) ChangeAddFault
as_result None = Ok tt
as_result (Some fault) = Err fault
