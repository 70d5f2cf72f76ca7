-- How many calls of the disk an opening takes.
use Rattle.std.specs.Prelude.{◌≡◌, ◌≢◌, ◌<◌, ◌+◌, ◌↔◌, ⊤, ℕ, List, [], length, Contains, Option, None, Some}
use Rattle.gopass_base.specs.Text.{Text}
use Rattle.gopass_base.specs.Order.{IsRising}
use Rattle.gopass_base.specs.Faults.{Costs}
use Rattle.disk_model.specs.Files.{Files}
use Rattle.disk_model.specs.Listing.{LiesIn, IsThere, IsListing}
use Rattle.pending_journal.specs.Service.{journal_path, stage_dir}
use Rattle.pending_journal.specs.Journal.{JournalPlan, IsJournalPlan, journal_text, paths_of, stage_path}

-- a file of the stage that no put of these moves away
pub record IsLeft (root : Text) (puts : List Text) (files : Files) (path : Text) : Type 0 where
  pub lies : LiesIn (stage_dir root) path
  pub there : IsThere files path
  pub unmoved : (i : ℕ) → i < length puts → path ≢ stage_path root i

-- all of them, each once
pub record AreLeft (root : Text) (puts : List Text) (files : Files) (left : List Text) : Type 0 where
  pub rising : IsRising left
  pub each : (path : Text) → Contains left path ↔ IsLeft root puts files path

-- how many calls an opening takes where no journal is there, or one with this text: six and one for each file that is
-- left in the stage; for a journal three more, and one for each path that it names
abbrev pub OpensIn : Text → Option Text → Files → ℕ → Type 0
OpensIn root None files n = (left : List Text) × AreLeft root [] files left × (n ≡ 6 + length left)
OpensIn root (Some text) files n = (plan : JournalPlan) × (left : List Text) × IsJournalPlan root plan × (text ≡ journal_text plan)
    × AreLeft root plan.puts files left × (n ≡ 9 + length (paths_of plan) + length left)

-- an opening of these files that was done: so many calls were made
abbrev pub IsOpenedIn : Text → Files → ℕ → ℕ → Type 0
IsOpenedIn root files before now = (n : ℕ) × OpensIn root (files (journal_path root)) files n × Costs n before now ⊤

-- no more calls were made than an opening of these files takes that is done
abbrev pub IsNoMore : Text → Files → ℕ → ℕ → Type 0
IsNoMore root files before now = (n : ℕ) → OpensIn root (files (journal_path root)) files n → Costs n before now ⊥

-- ---- the parts of an opening

-- in the stage the files of the puts are gone, and the others are as before
pub record IsMovedFrom (root : Text) (puts : List Text) (old new : Files) : Type 0 where
  pub gone : (i : ℕ) → i < length puts → new (stage_path root i) ≡ None
  pub rest : (path : Text) → LiesIn (stage_dir root) path → ((i : ℕ) → i < length puts → path ≢ stage_path root i) → new path ≡ old path

-- how many calls it takes to look for the journal, and to make its change where it is there
abbrev pub MendTakes : Text → Option Text → ℕ → Type 0
MendTakes root None n = n ≡ 1
MendTakes root (Some text) n = (plan : JournalPlan) × IsJournalPlan root plan × (text ≡ journal_text plan) × (n ≡ length (paths_of plan) + 4)

-- the journal was looked for, and its change was made where it was there
abbrev pub MendsIn : Text → Option Text → Files → Files → ℕ → ℕ → Type 0
MendsIn root None old new before now = IsMovedFrom root [] old new × Costs 1 before now ⊤
MendsIn root (Some text) old new before now = (plan : JournalPlan) × IsJournalPlan root plan × (text ≡ journal_text plan)
    × IsMovedFrom root plan.puts old new × Costs (length (paths_of plan) + 4) before now ⊤

abbrev pub IsMendedIn : Text → Files → Files → ℕ → ℕ → Type 0
IsMendedIn root old new before now = MendsIn root (old (journal_path root)) old new before now

-- the stage was cleared
abbrev pub IsClearedIn : Text → Files → ℕ → ℕ → Type 0
IsClearedIn root files before now = (left : List Text) × IsListing files (stage_dir root) left × Costs (length left + 3) before now ⊤
