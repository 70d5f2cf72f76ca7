-- The plan of `mounts`.
use Rattle.listing_texts.specs.MountLines.{mounts_listing}
use Rattle.store_state.specs.State.{State}
use Rattle.store_core.specs.Plans.{Done, Plan, answers}

-- `mounts` prints the mounts
abbrev pub plan_mounts : State → Plan State
plan_mounts state = answers (Done (mounts_listing state.mounts))
