-- Words that name nothing.
use Rattle.std.proofs.Common.{◌≡◌, inl, inr, refl}
use Rattle.std.specs.Prelude.{Option, Some}
use Rattle.gopass_base.specs.Text.{Text}
use Rattle.mount_table.specs.declared.name.BadName.{BadName}
use Rattle.mount_table.specs.declared.name.NameFault.{NameFault}
use Rattle.mount_table.specs.declared.name.NameFault.TheVariants.{Bad, NoMemory as NoRoom}
use Rattle.store_core.specs.Plans.{Outcome, Misnamed, Refused}
use Rattle.store_core.specs.declared.refusal.Refusal.TheVariants.{NoMemory}
use Rattle.gopass_cli.specs.Outcomes.{ComesTo, IsMisread}

-- what comes of a word that does not read: it is bad, or there was no memory
pub misread : (found : Option BadName) (word : Text) (fault : NameFault) (outcome : Outcome) → ((bad : BadName) → fault ≡ Bad bad → found ≡ Some bad)
    → ((bad : BadName) → fault ≡ Bad bad → ComesTo (Misnamed word bad.at) outcome) → (fault ≡ NoRoom → outcome ≡ Refused NoMemory)
    → IsMisread found word outcome
misread found word NoRoom outcome has comes room = inl (room refl)
misread found word (Bad bad) outcome has comes room = by (comes bad refl)
  where
    by : ComesTo (Misnamed word bad.at) outcome → IsMisread found word outcome
    by (inl is) = inr (bad, has bad refl, is)
    by (inr none) = inl none
