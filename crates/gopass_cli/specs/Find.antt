-- The plan of `find`.
use Rattle.std.specs.Prelude.{[], ◌∷◌}
use Rattle.gopass_base.specs.Text.{Text}
use Rattle.text_search.specs.Search.{names_with}
use Rattle.listing_texts.specs.Lines.{on_lines}
use Rattle.store_state.specs.State.{State}
use Rattle.store_core.specs.Plans.{Outcome, Done, NoHit, Plan, answers}
use Rattle.store_core.specs.Show.{names_of}

-- what the lines that were found come to; where there is none there is no hit
abbrev pub hits : Text → Outcome
hits [] = NoHit
hits (b ∷ lines) = Done (b ∷ lines)

-- `find` prints the names of the secrets that have the text
abbrev pub plan_find : Text → State → Plan State
plan_find text state = answers (hits (on_lines (names_with text (names_of state))))
