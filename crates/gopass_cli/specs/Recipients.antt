-- The plan of `recipients`.
use Rattle.listing_texts.specs.RuleLines.{recipients_listing}
use Rattle.store_state.specs.State.{State}
use Rattle.store_core.specs.Plans.{Done, Plan, answers}

-- `recipients` prints the folders that have a rule, each with its ids
abbrev pub plan_recipients : State → Plan State
plan_recipients state = answers (Done (recipients_listing state.rules))
