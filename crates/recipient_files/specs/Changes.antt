-- What changes of a set of recipients answer.
use Rattle.std.specs.Prelude.{◌≡◌, ◌<◌, [], ◌∷◌, ◌++◌, length, Contains, Result, Ok, Err}
use Rattle.gopass_base.specs.Text.{Text}
use Rattle.gopass_base.specs.Order.{IsSetOf}
use Rattle.recipient_files.specs.Ids.{Ids, without, most_ids}
use Rattle.recipient_files.specs.declared.recipients.IdAddFault.{IdAddFault}
use Rattle.recipient_files.specs.declared.recipients.IdAddFault.TheVariants.{Already, Full, NoMemory}
use Rattle.recipient_files.specs.declared.recipients.IdRemoveFault.{IdRemoveFault}
use Rattle.recipient_files.specs.declared.recipients.IdRemoveFault.TheVariants.{Absent, Last}

-- an id that is not there goes into a set of fewer than 64; the set stays as it is where the id is there, where it has
-- 64 others, and where there is no memory
abbrev pub AddsId : (id : Text) (old new : Ids) → Result (Unit {0}) IdAddFault → Type 0
AddsId id old new (Ok done) = (¬ Contains old id) × (length old < most_ids) × IsSetOf new (old ++ id ∷ [])
AddsId id old new (Err Already) = Contains old id × (new ≡ old)
AddsId id old new (Err Full) = (¬ Contains old id) × (length old ≡ most_ids) × (new ≡ old)
AddsId id old new (Err NoMemory) = (¬ Contains old id) × (length old < most_ids) × (new ≡ old)

-- an id that is there and not alone goes out; the set stays as it is where the id is not there, and where it is the last
abbrev pub RemovesId : (id : Text) (old new : Ids) → Result (Unit {0}) IdRemoveFault → Type 0
RemovesId id old new (Ok done) = Contains old id × (1 < length old) × (new ≡ without old id)
RemovesId id old new (Err Absent) = (¬ Contains old id) × (new ≡ old)
RemovesId id old new (Err Last) = Contains old id × (length old ≡ 1) × (new ≡ old)
