-- What a command does to a store: its words as names, folders and texts.
use Rattle.std.specs.Prelude.{Bool, true, false, [], codes, string_bytes, String, Option, None, Some, Result, Ok, Err}
use Rattle.std.specs.Global.{Global}
use Rattle.gopass_base.specs.Text.{Text}
use Rattle.mount_table.specs.Folders.{without_slash}
use Rattle.mount_table.specs.FaultOf.{name_fault, folder_fault}
use Rattle.mount_table.specs.declared.name.BadName.{BadName}
use Rattle.command_words.specs.declared.command.Command.{Command}
use Rattle.command_words.specs.declared.command.Command.TheVariants as command
use Rattle.store_core.specs.Plans.{Outcome, Misnamed}
use Rattle.gopass_cli.specs.declared.action.Action.{Action}
use Rattle.gopass_cli.specs.declared.action.Action.TheVariants.{Show, Insert, Ls, Find, Mounts, Recipients}

-- the action, unless the word is bad
abbrev pub unless_bad : Option BadName → Text → Action → Result Action Outcome
unless_bad None word action = Ok action
unless_bad (Some bad) word action = Err (Misnamed word bad.at)

-- the word of a folder; that of the root folder where there is none
abbrev pub folder_word : Option (String Global) → Text
folder_word None = codes "/"
folder_word (Some word) = string_bytes word

-- the action of a command, or what comes of a word that names nothing
abbrev pub action_of : Command → Result Action Outcome
action_of (command.Show name) = unless_bad (name_fault (string_bytes name)) (string_bytes name) (Show (string_bytes name))
action_of (command.Insert name force multi) = unless_bad (name_fault (string_bytes name)) (string_bytes name) (Insert (string_bytes name) force)
action_of (command.Ls folder flat) = unless_bad (folder_fault (folder_word folder)) (folder_word folder) (Ls (without_slash (folder_word folder)) flat)
action_of (command.Find text) = Ok (Find (string_bytes text))
action_of command.Mounts = Ok Mounts
action_of command.Recipients = Ok Recipients

-- the name or the folder that an action is about
abbrev pub subject : Action → Text
subject (Show name) = name
subject (Insert name force) = name
subject (Ls folder flat) = folder
subject _ = []

abbrev pub subject_by : Result Action Outcome → Text
subject_by (Ok action) = subject action
subject_by (Err outcome) = []

-- the name or the folder that a command is about
abbrev pub subject_of : Command → Text
subject_of command = subject_by (action_of command)

-- whether an action changes nothing
abbrev pub changes_nothing : Action → Bool
changes_nothing (Insert name force) = false
changes_nothing _ = true

abbrev pub changes_nothing_by : Result Action Outcome → Bool
changes_nothing_by (Ok action) = changes_nothing action
changes_nothing_by (Err outcome) = true

-- whether a command changes nothing; one of which a word names nothing does not change anything
abbrev pub changes_nothing_of : Command → Bool
changes_nothing_of command = changes_nothing_by (action_of command)
