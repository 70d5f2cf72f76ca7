-- Outcomes, as they stand in code and as they are meant.
use Rattle.std.specs.Prelude.{◌≡◌, ◌≢◌, ◌⊎◌, Option, Some}
use Rattle.gopass_base.specs.Text.{Text}
use Rattle.mount_table.specs.declared.name.BadName.{BadName}
use Rattle.store_core.specs.Plans.{Outcome, Done, NoHit, Misnamed, Refused}
use Rattle.store_core.specs.Refusals.{IsAbout}
use Rattle.store_core.specs.declared.refusal.Refusal.TheVariants.{Tool, Disk, NoMemory}
use Rattle.gopass_cli.specs.declared.outcome.Outcome.{Outcome as Given}
use Rattle.gopass_cli.specs.declared.outcome.Outcome.TheVariants as given

abbrev pub meant : Given → Outcome
meant (given.Done bytes) = Done bytes.items
meant given.NoHit = NoHit
meant (given.Misnamed word at) = Misnamed word at
meant (given.Refused refusal) = Refused refusal

-- it comes to this, or there was no memory for it
abbrev pub ComesTo : (wanted outcome : Outcome) → Type 0
ComesTo wanted outcome = (outcome ≡ wanted) ⊎ (outcome ≡ Refused NoMemory)

-- a word, of which this is found, is misread: it names nothing, or there was no memory
abbrev pub IsMisread : Option BadName → Text → Outcome → Type 0
IsMisread found word outcome = (outcome ≡ Refused NoMemory) ⊎ ((bad : BadName) × (found ≡ Some bad) × (outcome ≡ Misnamed word bad.at))

-- it tells no fault of the outside
pub record IsInner (outcome : Outcome) : Type 0 where
  pub no_tool : (name : Text) → outcome ≢ Refused (Tool name)
  pub no_disk : outcome ≢ Refused Disk

-- a refusal that names a secret names this one
abbrev pub Concerns : Text → Outcome → Type 0
Concerns subject (Refused refusal) = IsAbout subject refusal
Concerns subject outcome = Unit {0}
