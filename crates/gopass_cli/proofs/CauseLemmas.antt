-- What the status of an outcome tells.
use Rattle.std.proofs.Common.{◌≡◌, inl, inr, ℕ, ◌<◌, ◌⊎◌, refl, ap, arith}
use Rattle.std.specs.Prelude.{◌≢◌}
use Rattle.gopass_base.specs.Text.{Text}
use Rattle.store_core.specs.Moment.{Faults}
use Rattle.store_core.specs.Does.{HasCauses}
use Rattle.store_core.specs.Plans.{Outcome, Done, NoHit, Misnamed, Refused}
use Rattle.store_core.specs.declared.refusal.Refusal.{Refusal}
use Rattle.store_core.specs.declared.refusal.Refusal.TheVariants.{NotFound, IsFolder, Exists, NoRule, Full, UnknownId, NoKey, NotSealed, Tool, Disk, NoMemory}
use Rattle.gopass_cli.specs.Causes.{TellsCauses}
use Rattle.gopass_cli.specs.declared.status.Status.{Status}
use Rattle.gopass_cli.specs.declared.status.Status.TheVariants.{Done as IsDone, NoHit as IsNoHit, BadWords, ToolFailed, DiskFailed, NoMemory as OutOfMemory, InputFailed, SinkFailed}
use Rattle.gopass_cli.specs.Statuses.{code, status_of}
use Rattle.gopass_cli.specs.Said.{said_of}

-- the status of a fault of the tool or of the disk tells that fault, and none is that of the input or of a sink
record TellsOutcome (outcome : Outcome) (status : ℕ) : Type 0 where
  pub tool : status ≡ code ToolFailed → (name : Text) × (outcome ≡ Refused (Tool name))
  pub disk : status ≡ code DiskFailed → outcome ≡ Refused Disk
  pub no_input : status ≢ code InputFailed
  pub no_sink : status ≢ code SinkFailed

-- a status that tells no fault of the outside
inner : (outcome : Outcome) (status : Status) → (code status < code ToolFailed) ⊎ (code status ≡ code OutOfMemory) → TellsOutcome outcome (code status)
inner outcome status (inl lt) = record { tool = λ e. absurd (omega (arith, e, lt)); disk = λ e. absurd (omega (arith, e, lt)); no_input = λ e. omega (arith, e, lt); no_sink = λ e. omega (arith, e, lt) }
inner outcome status (inr is) = record { tool = λ e. absurd (omega (arith, e, is)); disk = λ e. absurd (omega (arith, e, is)); no_input = λ e. omega (arith, e, is); no_sink = λ e. omega (arith, e, is) }

within : (refusal : Refusal) → (code (status_of refusal) < code ToolFailed) → TellsOutcome (Refused refusal) (code (status_of refusal))
within refusal lt = inner (Refused refusal) (status_of refusal) (inl lt)

tells : (subject : Text) (outcome : Outcome) → TellsOutcome outcome (said_of subject outcome).status
tells subject (Done bytes) = inner (Done bytes) IsDone (inl (omega arith))
tells subject NoHit = inner NoHit IsNoHit (inl (omega arith))
tells subject (Misnamed word at) = inner (Misnamed word at) BadWords (inl (omega arith))
tells subject (Refused NotFound) = within NotFound (omega arith)
tells subject (Refused IsFolder) = within IsFolder (omega arith)
tells subject (Refused (Exists name)) = within (Exists name) (omega arith)
tells subject (Refused (NoRule name)) = within (NoRule name) (omega arith)
tells subject (Refused (Full limit)) = within (Full limit) (omega arith)
tells subject (Refused (UnknownId id)) = within (UnknownId id) (omega arith)
tells subject (Refused (NoKey name)) = within (NoKey name) (omega arith)
tells subject (Refused (NotSealed name)) = within (NotSealed name) (omega arith)
tells subject (Refused (Tool name)) = record { tool = λ e. (name, refl); disk = λ e. absurd (omega (arith, e)); no_input = λ e. omega (arith, e); no_sink = λ e. omega (arith, e) }
tells subject (Refused Disk) = record { tool = λ e. absurd (omega (arith, e)); disk = λ e. refl; no_input = λ e. omega (arith, e); no_sink = λ e. omega (arith, e) }
tells subject (Refused NoMemory) = inner (Refused NoMemory) OutOfMemory (inr refl)

pub tells_causes : (subject : Text) (old new : Faults) (outcome : Outcome) → HasCauses old new outcome → TellsCauses old new (said_of subject outcome).status
tells_causes subject old new outcome causes = record {
  tools = record {
    later = causes.tools.later;
    failed = λ e. causes.tools.failed ((tells subject outcome).tool e);
    stays = λ other. causes.tools.stays (λ (name, is). other (ap (λ (o : Outcome). (said_of subject o).status) is));
  };
  disk = record {
    later = causes.disk.later;
    failed = λ e. causes.disk.failed ((tells subject outcome).disk e);
    stays = λ other. causes.disk.stays (λ is. other (ap (λ (o : Outcome). (said_of subject o).status) is));
    once = causes.disk.once;
  };
  no_sink = (tells subject outcome).no_sink;
}

-- no outcome tells a fault of the input
pub tells_no_input : (subject : Text) (outcome : Outcome) → (said_of subject outcome).status ≢ code InputFailed
tells_no_input subject outcome = (tells subject outcome).no_input
