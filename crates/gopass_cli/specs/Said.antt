-- What is said of what a command comes to.
use Rattle.std.specs.Prelude.{ℕ, [], codes}
use Rattle.gopass_base.specs.Text.{Text}
use Rattle.store_core.specs.Steps.{stop_outcome}
use Rattle.store_core.specs.declared.refusal.Refusal.{Refusal}
use Rattle.store_core.specs.declared.refusal.Refusal.TheVariants.{NotFound, IsFolder, Exists, NoRule, Full, UnknownId, NoKey, NotSealed, Tool, Disk, NoMemory}
use Rattle.store_core.specs.Plans.{Outcome, Done, NoHit, Misnamed, Refused}
use Rattle.store_core.specs.Events.{Cause}
use Rattle.gopass_cli.specs.declared.status.Status.{Status}
use Rattle.gopass_cli.specs.declared.status.Status.TheVariants as status
use Rattle.gopass_cli.specs.Statuses.{code, status_of}
use Rattle.gopass_cli.specs.Texts.{bad_name, err_line, not_in_the_store, is_a_folder, is_there_already, no_rule_for, not_known, limit_passed, no_key, not_sealed, tool_failed}

-- the status, and the bytes for standard output and standard error
pub record Said : Type 0 where
  pub status : ℕ
  pub out : Text
  pub err : Text

abbrev pub granted : Text → Said
granted out = record { status = code status.Done; out = out; err = [] }

-- nothing on standard output, and one line on standard error
abbrev pub refused : Status → Text → Said
refused status text = record { status = code status; out = []; err = err_line text }

-- a status alone: that of want of memory has no bytes of its own, and that of a search without a hit none at all
abbrev pub silent : Status → Said
silent status = record { status = code status; out = []; err = [] }

-- want of memory
abbrev pub unsaid : Said
unsaid = silent status.NoMemory

-- the text of a refusal of a command about this subject
abbrev pub refusal_text : Text → Refusal → Text
refusal_text subject NotFound = not_in_the_store subject
refusal_text subject IsFolder = is_a_folder subject
refusal_text subject (Exists name) = is_there_already name
refusal_text subject (NoRule name) = no_rule_for name
refusal_text subject (UnknownId id) = not_known id
refusal_text subject (Full limit) = limit_passed limit
refusal_text subject (NoKey name) = no_key name
refusal_text subject (NotSealed name) = not_sealed name
refusal_text subject (Tool name) = tool_failed name
refusal_text subject Disk = codes "the disk failed"
refusal_text subject NoMemory = codes "out of memory"

-- what is said of a refusal; want of memory has no bytes
abbrev pub refusal_said : Text → Refusal → Said
refusal_said subject NoMemory = unsaid
refusal_said subject refusal = refused (status_of refusal) (refusal_text subject refusal)

-- what is said of an outcome of a command about this subject
abbrev pub said_of : Text → Outcome → Said
said_of subject (Done bytes) = granted bytes
said_of subject NoHit = silent status.NoHit
said_of subject (Misnamed word at) = refused status.BadWords (bad_name at word)
said_of subject (Refused refusal) = refusal_said subject refusal

-- what is said where a fault stopped the turn
abbrev pub stop_said : Cause → Said
stop_said cause = said_of [] (stop_outcome cause)
