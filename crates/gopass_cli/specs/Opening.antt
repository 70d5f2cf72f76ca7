-- What a run says that opens a store.
use Rattle.std.specs.Prelude.{◌≡◌, ◌⊎◌, ℕ, Err}
use Rattle.gopass_base.specs.Text.{Text}
use Rattle.disk_model.specs.Files.{Files}
use Rattle.pending_journal.specs.Service.{journal_path}
use Rattle.pending_journal.specs.Redo.{RecoversTo}
use Rattle.pending_journal.specs.Faults.{HasBadJournal, IsJournalLine}
use Rattle.pending_journal.specs.declared.fault.VaultFault.{VaultFault}
use Rattle.pending_journal.specs.declared.fault.VaultFault.TheVariants.{BadJournal, Disk as NoVaultDisk, NoMemory as NoVaultRoom}
use Rattle.cipher_port.specs.Tool.{Opens, Ring}
use Rattle.command_words.specs.declared.command.Command.{Command}
use Rattle.store_state.specs.declared.fault.StoreFault.{StoreFault}
use Rattle.store_state.specs.declared.fault.StoreFault.TheVariants.{BadFile, Full, Disk, NoMemory}
use Rattle.store_state.specs.declared.opening.Found.{Found}
use Rattle.store_state.specs.Faults.{IsFileFault}
use Rattle.store_state.specs.Opening.{IsFound, OpensStore}
use Rattle.store_state.specs.State.{State, StandsFor}
use Rattle.store_core.specs.Events.{Events, TheDisk}
use Rattle.gopass_cli.specs.declared.status.Status.TheVariants as status
use Rattle.gopass_cli.specs.Said.{Said, refused, stop_said, unsaid}
use Rattle.gopass_cli.specs.Texts.{bad_line, limit_passed}
use Rattle.request_body.specs.Bodies.{Input}
use Rattle.request_body.specs.Given.{IsLeft}
use Rattle.gopass_cli.specs.Requests.{SaysOfRequest}

-- a journal is there that does not read: it is bad at one of its lines
pub record SaysOfJournal (root : Text) (files : Files) (said : Said) : Type 0 where
  pub bad : HasBadJournal root files
  pub line : ℕ
  pub of_journal : IsJournalLine root files line
  pub says : said ≡ refused status.BadFile (bad_line (journal_path root) line)

-- what is said of a vault that is refused
abbrev pub vault_said : Text → VaultFault → Said
vault_said root (BadJournal line) = refused status.BadFile (bad_line (journal_path root) line)
vault_said root NoVaultDisk = stop_said TheDisk
vault_said root NoVaultRoom = unsaid

-- what is said of a store that is refused
abbrev pub fault_said : StoreFault → Said
fault_said (BadFile path line) = refused status.BadFile (bad_line path line)
fault_said (Full limit) = refused status.LimitPassed (limit_passed limit)
fault_said Disk = stop_said TheDisk
fault_said NoMemory = unsaid

-- the files for which those on the disk stand refuse the opening of the store
pub record SaysOfFault (root : Text) (files : Files) (said : Said) : Type 0 where
  pub after : Files
  pub redone : RecoversTo root files after
  pub fault : StoreFault
  pub of_files : IsFileFault fault
  pub refuses : OpensStore root after (Err fault)
  pub says : said ≡ fault_said fault

-- the files for which those on the disk stand are those of a store, and the command is answered in its state
pub record SaysOpened (opens : Opens) (root : Text) (files : Files) (input : Input) (ring : Ring) (command : Command) (events : Events) (said : Said) : Type 0 where
  pub after : Files
  pub redone : RecoversTo root files after
  pub found : Found
  pub finds : IsFound root after found
  pub state : State
  pub stands : StandsFor opens root after state
  pub says : SaysOfRequest command input ring state events said

-- what is said of a command on these files, for what the outside gave
abbrev pub SaysOfCommand : Opens → Text → Files → Input → Ring → Command → Events → Said → Type 0
SaysOfCommand opens root files input ring command events said =
    (SaysOfJournal root files said × IsLeft input) ⊎ ((SaysOfFault root files said × IsLeft input) ⊎ SaysOpened opens root files input ring command events said)
