-- Each command keeps each secret made for the ids that govern its name.
use Rattle.std.specs.Prelude.{List, Option, Some, None, Result, Ok, Err}
use Rattle.std.specs.FinMap as map
use Rattle.gopass_base.specs.Text.{Text}
use Rattle.cipher_port.specs.Tool.{Ring}
use Rattle.command_words.specs.declared.command.Command.{Command}
use Rattle.store_state.specs.State.{State, Cell}
use Rattle.store_core.specs.Steps.{states_of}
use Rattle.store_core.specs.Events.{Events}
use Rattle.store_core.specs.Plans.{Outcome}
use Rattle.store_core.specs.Show.{names_of, show_row}
use Rattle.store_core.specs.Kept.{IsKept, AreAllKept}
use Rattle.store_core.proofs.KeptLemmas.{none_kept, plan_insert_kept}
use Rattle.gopass_cli.specs.declared.action.Action.{Action}
use Rattle.gopass_cli.specs.declared.action.Action.TheVariants.{Show, Insert, Ls, Find, Mounts, Recipients}
use Rattle.gopass_cli.specs.Actions.{action_of}
use Rattle.gopass_cli.specs.Plan.{body_in, action_plan, plan_by, plan_of}

show_kept : (ring : Ring) (name : Text) (names : List Text) (events : Events) (cell : Option Cell) → AreAllKept (states_of (show_row ring name names events cell).steps)
show_kept ring name names events None = none_kept
show_kept ring name names events (Some cell) = none_kept

action_kept : (ring : Ring) (action : Action) (body : Text) (state : State) (events : Events) → IsKept state → AreAllKept (states_of (action_plan ring action body state events).steps)
action_kept ring (Show name) body state events kept = show_kept ring name (names_of state) events (map.get state.rows name)
action_kept ring (Insert name force) body state events kept = plan_insert_kept ring name body force state events kept
action_kept ring (Ls folder flat) body state events kept = none_kept
action_kept ring (Find text) body state events kept = none_kept
action_kept ring Mounts body state events kept = none_kept
action_kept ring Recipients body state events kept = none_kept

kept_by : (ring : Ring) (action : Result Action Outcome) (body : Text) (state : State) (events : Events) → IsKept state → AreAllKept (states_of (plan_by ring action body state events).steps)
kept_by ring (Ok action) body state events kept = action_kept ring action body state events kept
kept_by ring (Err outcome) body state events kept = none_kept

pub plan_kept : (ring : Ring) (command : Command) (body : Option Text) (state : State) (events : Events) → IsKept state → AreAllKept (states_of (plan_of ring command body state events).steps)
plan_kept ring command body state events kept = kept_by ring (action_of command) (body_in body) state events kept
