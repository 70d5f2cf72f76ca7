-- What the files that a crash leaves stand for.
use Rattle.std.specs.Prelude.{◌≡◌, ◌⊎◌, ◌+◌, ℕ, true, ◌||◌, List, [], ◌∷◌, Option, None, Some, bytes_eq, if◌then◌else◌}
use Rattle.std.specs.Option.{option_or}
use Rattle.gopass_base.specs.Text.{Text, is_among}
use Rattle.disk_model.specs.Files.{Files}
use Rattle.disk_model.specs.Disk.{View, Only}
use Rattle.pending_journal.specs.Service.{is_service, without_service, journal_path}
use Rattle.pending_journal.specs.Journal.{JournalPlan, IsJournalPlan, journal_text, stage_path}

-- a move: the path in the stage, and the path to which its file goes
abbrev pub Move : Type 0
Move = Text × Text

-- the moves of the puts, whose stage names are counted from i
abbrev pub moves_from : Text → ℕ → List Text → List Move
moves_from root i [] = []
moves_from root i (path ∷ paths) = (stage_path root i, path) ∷ moves_from root (i + 1) paths

-- where the file of a path is staged
abbrev pub source_of : List Move → Text → Option Text
source_of [] path = None
source_of (move ∷ moves) path = if bytes_eq move.1 path then Some move.0 else source_of moves path

-- the staged file where it is there, and else the file that is here
abbrev pub brought : Files → Option Text → Option Text → Option Text
brought files None here = here
brought files (Some from) here = option_or (files from) here

-- the files in which each put whose staged file is there is moved to its path and each dropped path is removed, without
-- the vault's own
unfoldable pub redone_by : Text → List Move → List Text → Files → Files
redone_by root moves drops files path =
    if is_service root path || is_among drops path then None else brought files (source_of moves path) (files path)

abbrev pub redone : Text → JournalPlan → Files → Files
redone root plan files = redone_by root (moves_from root 0 plan.puts) plan.drops files

-- what files with such a journal, or without one, stand for
abbrev pub RecoversBy : Text → Option Text → Files → Files → Type 0
RecoversBy root None files after = after ≡ without_service root files
RecoversBy root (Some text) files after = (plan : JournalPlan) × IsJournalPlan root plan × (text ≡ journal_text plan) × (after ≡ redone root plan files)

-- what the files stand for
abbrev pub RecoversTo : Text → Files → Files → Type 0
RecoversTo root files after = RecoversBy root (files (journal_path root)) files after

-- they stand for the same files
abbrev pub IsAlike : Text → Files → Files → Type 0
IsAlike root files others = (after : Files) × RecoversTo root files after × RecoversTo root others after

-- they stand for the files before or for those after
abbrev pub IsBeforeOrAfter : Text → Files → Files → Files → Type 0
IsBeforeOrAfter root before after files = RecoversTo root files before ⊎ RecoversTo root files after

-- the files are the only image, and none of the vault's own is there
pub record IsAtRest (root : Text) (disk : View) : Type 0 where
  pub only : Only disk.files disk
  pub none : (path : Text) → is_service root path ≡ true → disk.files path ≡ None
