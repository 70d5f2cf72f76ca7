-- The plan of `show`.
use Rattle.std.specs.Prelude.{Bool, List, Option, None, Some, if◌then◌else◌}
use Rattle.std.specs.List.{list_any}
use Rattle.std.specs.FinMap as map
use Rattle.gopass_base.specs.Text.{Text}
use Rattle.mount_table.specs.MountOf.{holds}
use Rattle.cipher_port.specs.Tool.{Ring, has_key_of}
use Rattle.store_state.specs.State.{State, Cell, Sealed, Broken}
use Rattle.store_core.specs.Plans.{Outcome, Done, Refused, Plan, answers, answers_by_tool}
use Rattle.store_core.specs.declared.refusal.Refusal.TheVariants.{NotFound, IsFolder, NoKey, NotSealed, Tool}
use Rattle.store_core.specs.Events.{Events, is_refused}

-- the names of the secrets, in the order of their bytes
abbrev pub names_of : State → List Text
names_of state = map.keys state.rows

-- whether one of these names lies in the folder
abbrev pub holds_one : Text → List Text → Bool
holds_one folder names = list_any (λ name. holds folder name) names

-- what is said of a name that has no secret: whether it is that of a folder
abbrev pub missing : Text → List Text → Outcome
missing name names = Refused (if holds_one name names then IsFolder else NotFound)

-- the body, where a key is held for it
abbrev pub shown : Ring → Text → Cell → Outcome
shown ring name (Sealed content) = if has_key_of ring content.to then Done content.body else Refused (NoKey name)
shown ring name (Broken bytes) = Refused (NotSealed name)

-- what is planned of a secret, or of none
abbrev pub show_row : Ring → Text → List Text → Events → Option Cell → Plan State
show_row ring name names events None = answers (missing name names)
show_row ring name names events (Some cell) = answers_by_tool (if is_refused name events then Refused (Tool name) else shown ring name cell)

-- `show` prints the body of a secret, and changes nothing
abbrev pub plan_show : Ring → Text → State → Events → Plan State
plan_show ring name state events = show_row ring name (names_of state) events (map.get state.rows name)
