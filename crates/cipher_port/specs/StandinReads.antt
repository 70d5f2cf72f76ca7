-- What the readers of the stand-in's parts answer.
use Rattle.std.specs.Prelude.{◌≡◌, ◌≤◌, length, All, Option, None, Some, Result, Ok, Err}
use Rattle.gopass_base.specs.Order.{IsRising}
use Rattle.recipient_files.specs.Ids.{Ids, IsId, most_ids}
use Rattle.cipher_port.specs.declared.standin.StandinFault.{StandinFault}
use Rattle.cipher_port.specs.declared.standin.StandinFault.TheVariants.{NotSealed, NoMemory}

-- the value where there is one, and `NotSealed` where there is none; want of memory may stand for both
abbrev pub Gives : {X Y : Type 0} → (X → Y) → Result X StandinFault → Option Y → Type 0
Gives view (Ok x) read = read ≡ Some (view x)
Gives view (Err NotSealed) read = read ≡ None
Gives view (Err NoMemory) read = Unit {0}

-- ids read so far: as recipients are, and there may be none yet
pub record IsSoFar (ids : Ids) : Type 0 where
  pub few : length ids ≤ most_ids
  pub each : All IsId ids
  pub rising : IsRising ids
