-- Replies as what they say, and what a turn ensures of its reply.
use Rattle.std.specs.Prelude.{◌≡◌, ◌≢◌, ◌⊎◌, ℕ}
use Rattle.gopass_base.specs.Text.{Text}
use Rattle.disk_model.specs.declared.disk.Disk.{Ghosts}
use Rattle.cipher_port.specs.Tool.{Ring}
use Rattle.store_state.specs.State.{State}
use Rattle.store_core.specs.Steps.{just}
use Rattle.store_core.specs.declared.store.Store.{Store}
use Rattle.store_core.specs.Events.{Events}
use Rattle.store_core.specs.Moment.{Tools}
use Rattle.store_core.specs.Plans.{Outcome, Plan}
use Rattle.store_core.specs.Does.{Does, Keeps}
use Rattle.gopass_cli.specs.declared.status.Status.TheVariants.{ToolFailed, DiskFailed, InputFailed, SinkFailed}
use Rattle.gopass_cli.specs.Statuses.{code}
use Rattle.gopass_cli.specs.Said.{Said, said_of, unsaid}
use Rattle.gopass_cli.specs.declared.reply.Reply.{Reply}

abbrev pub said_in : Reply → Said
said_in reply = record { status = reply.status; out = reply.out.items; err = reply.err.items }

-- the status tells no fault of the outside
pub record IsInnerStatus (status : ℕ) : Type 0 where
  pub no_tool : status ≢ code ToolFailed
  pub no_disk : status ≢ code DiskFailed
  pub no_input : status ≢ code InputFailed
  pub no_sink : status ≢ code SinkFailed

-- this is said, or there was no memory for it; a fault of the outside is said in any case
abbrev pub Says : Said → Said → Type 0
Says wanted said = (said ≡ wanted) ⊎ (IsInnerStatus wanted.status × (said ≡ unsaid))

-- a command about this subject came to an outcome on a store, and the reply says it. Where disk and tools tell, it is
-- what was planned; told or not, it has its causes, and tools are called so often at most
pub record Turned {D : Type 0} {G : Ghosts D} (plan : Ring → State → Events → Plan State) (most : ℕ) (subject : Text) (old new : Store D G) (before after : Tools) (reply : Reply) : Type 0 where
  pub outcome : Outcome
  pub planned : Does plan old new before after (just outcome)
  pub keeps : Keeps most old new before after outcome
  pub says : said_in reply ≡ said_of subject outcome
