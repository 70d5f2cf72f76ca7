-- Why a vault is refused.
use Rattle.std.specs.Prelude.{◌≡◌, ◌≢◌, ◌≤◌, ℕ, length, Some}
use Rattle.gopass_base.specs.Text.{Text}
use Rattle.gopass_base.specs.Lines.{pieces_of}
use Rattle.disk_model.specs.Files.{Files}
use Rattle.disk_model.specs.declared.disk.DiskFault.{DiskFault}
use Rattle.disk_model.specs.declared.disk.DiskFault.TheVariants.{Failed, NoMemory as NoRoom}
use Rattle.pending_journal.specs.Service.{journal_path}
use Rattle.pending_journal.specs.Journal.{JournalPlan, IsJournalPlan, journal_text}
use Rattle.pending_journal.specs.declared.fault.VaultFault.{VaultFault}
use Rattle.pending_journal.specs.declared.fault.VaultFault.TheVariants.{BadJournal, Disk, NoMemory}

-- the text is the journal of no plan
abbrev pub IsBadText : Text → Text → Type 0
IsBadText root text = (plan : JournalPlan) → IsJournalPlan root plan → text ≢ journal_text plan

-- the number of a line of the text, from 1
abbrev pub IsLineOf : Text → ℕ → Type 0
IsLineOf text n = (1 ≤ n) × (n ≤ length (pieces_of text))

-- why a text is not read as a journal: it is none, and one of its lines is told
abbrev pub RefusesText : Text → Text → VaultFault → Type 0
RefusesText root text (BadJournal n) = IsBadText root text × IsLineOf text n
RefusesText root text Disk = ⊥
RefusesText root text NoMemory = Unit {0}

-- a journal is there, and it is none
abbrev pub HasBadJournal : Text → Files → Type 0
HasBadJournal root files = (text : Text) × (files (journal_path root) ≡ Some text) × IsBadText root text

-- a journal is there, and it has a line of this number
abbrev pub IsJournalLine : Text → Files → ℕ → Type 0
IsJournalLine root files n = (text : Text) × (files (journal_path root) ≡ Some text) × IsLineOf text n

-- why a vault is refused, where the disk tells its files
abbrev pub RefusesVault : Text → Files → VaultFault → Type 0
RefusesVault root files (BadJournal n) = HasBadJournal root files × IsJournalLine root files n
RefusesVault root files Disk = Unit {0}
RefusesVault root files NoMemory = Unit {0}

-- what a fault of the disk makes an opening answer
abbrev pub vault_fault_by_disk : DiskFault → VaultFault
vault_fault_by_disk Failed = Disk
vault_fault_by_disk NoRoom = NoMemory
