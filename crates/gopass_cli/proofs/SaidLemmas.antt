-- What is said of a refusal.
use Rattle.std.proofs.Common.{◌≡◌, refl}
use Rattle.gopass_base.specs.Text.{Text}
use Rattle.store_core.specs.declared.refusal.Refusal.{Refusal}
use Rattle.store_core.specs.declared.refusal.Refusal.TheVariants.{NotFound, IsFolder, Exists, NoRule, Full, UnknownId, NoKey, NotSealed, Tool, Disk, NoMemory}
use Rattle.gopass_cli.specs.Said.{refusal_said, refusal_text, refused}
use Rattle.gopass_cli.specs.Statuses.{status_of}

-- but for want of memory it is its status and its text
pub said_with_text : (subject : Text) (refusal : Refusal) → (refusal ≡ NoMemory → ⊥) → refusal_said subject refusal ≡ refused (status_of refusal) (refusal_text subject refusal)
said_with_text subject NotFound other = refl
said_with_text subject IsFolder other = refl
said_with_text subject (Exists name) other = refl
said_with_text subject (NoRule name) other = refl
said_with_text subject (UnknownId id) other = refl
said_with_text subject (Full limit) other = refl
said_with_text subject (NoKey name) other = refl
said_with_text subject (NotSealed name) other = refl
said_with_text subject (Tool name) other = refl
said_with_text subject Disk other = refl
said_with_text subject NoMemory other = absurd (other refl)
