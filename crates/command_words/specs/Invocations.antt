-- The words of a command line that give a command.
use Rattle.std.specs.Prelude.{◌&&◌, List, [], ◌∷◌, map, string_bytes}
use Rattle.std.specs.Option.{option_to_list}
use Rattle.gopass_base.specs.Text.{Text}
use Rattle.command_words.specs.Options.{no_flags}
use Rattle.command_words.specs.declared.options.Flags.{Flags}
use Rattle.command_words.specs.declared.verb.Verb.{Verb}
use Rattle.command_words.specs.declared.verb.Verb.TheVariants.{Find, Insert, Ls, Mounts, Recipients, Show}
use Rattle.command_words.specs.declared.command.Command.{Command}
use Rattle.command_words.specs.declared.command.Command.TheVariants as command

-- which command it is, its options, and its plain words in their order
pub record Invocation : Type 0 where
  pub verb : Verb
  pub flags : Flags
  pub plain : List Text

-- the invocation that gives a command
abbrev pub invocation_of : Command → Invocation
invocation_of (command.Find text) = record { verb = Find; flags = no_flags; plain = string_bytes text ∷ [] }
invocation_of (command.Insert name force multi) = record { verb = Insert; flags = record no_flags { force = force; multi = multi }; plain = string_bytes name ∷ [] }
invocation_of (command.Ls folder flat) = record { verb = Ls; flags = record no_flags { flat = flat }; plain = map string_bytes (option_to_list folder) }
invocation_of command.Mounts = record { verb = Mounts; flags = no_flags; plain = [] }
invocation_of command.Recipients = record { verb = Recipients; flags = no_flags; plain = [] }
invocation_of (command.Show name) = record { verb = Show; flags = no_flags; plain = string_bytes name ∷ [] }

-- those of the options that are among these
abbrev pub only : Flags → Flags → Flags
only these flags = record { flat = these.flat && flags.flat; force = these.force && flags.force; multi = these.multi && flags.multi }
