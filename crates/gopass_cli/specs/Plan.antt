-- The plan of a command.
use Rattle.std.specs.Prelude.{ℕ, [], Option, None, Some, Result, Ok, Err}
use Rattle.gopass_base.specs.Text.{Text}
use Rattle.cipher_port.specs.Tool.{Ring}
use Rattle.command_words.specs.declared.command.Command.{Command}
use Rattle.store_state.specs.State.{State}
use Rattle.store_core.specs.Events.{Events}
use Rattle.store_core.specs.Plans.{Outcome, Plan, answers}
use Rattle.store_core.specs.Show.{plan_show}
use Rattle.store_core.specs.Insert.{plan_insert}
use Rattle.gopass_cli.specs.declared.action.Action.{Action}
use Rattle.gopass_cli.specs.declared.action.Action.TheVariants.{Show, Insert, Ls, Find, Mounts, Recipients}
use Rattle.gopass_cli.specs.Actions.{action_of}
use Rattle.gopass_cli.specs.Ls.{plan_ls}
use Rattle.gopass_cli.specs.Find.{plan_find}
use Rattle.gopass_cli.specs.Mounts.{plan_mounts}
use Rattle.gopass_cli.specs.Recipients.{plan_recipients}

-- the body that was given
abbrev pub body_in : Option Text → Text
body_in None = []
body_in (Some body) = body

-- the plan of an action with this body in a state, for what the outside gave
abbrev pub action_plan : Ring → Action → Text → State → Events → Plan State
action_plan ring (Show name) body state events = plan_show ring name state events
action_plan ring (Insert name force) body state events = plan_insert ring name body force state events
action_plan ring (Ls folder flat) body state events = plan_ls folder flat state
action_plan ring (Find text) body state events = plan_find text state
action_plan ring Mounts body state events = plan_mounts state
action_plan ring Recipients body state events = plan_recipients state

abbrev pub plan_by : Ring → Result Action Outcome → Text → State → Events → Plan State
plan_by ring (Ok action) body state events = action_plan ring action body state events
plan_by ring (Err outcome) body state events = answers outcome

-- what a command with this body answers, and what it leaves
abbrev pub plan_of : Ring → Command → Option Text → State → Events → Plan State
plan_of ring command body state events = plan_by ring (action_of command) (body_in body) state events

-- how often it calls a tool at most
abbrev pub action_calls : Action → ℕ
action_calls (Show name) = 1
action_calls (Insert name force) = 1
action_calls _ = 0

abbrev pub calls_by : Result Action Outcome → ℕ
calls_by (Ok action) = action_calls action
calls_by (Err outcome) = 0

abbrev pub most_calls : Command → ℕ
most_calls command = calls_by (action_of command)
