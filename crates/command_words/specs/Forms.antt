-- The commands, and what each takes.
use Rattle.std.specs.Prelude.{true, false, List, [], ◌∷◌, Option, codes}
use Rattle.gopass_base.specs.Text.{Text}
use Rattle.command_words.specs.Lookup.{Meant, meaning_of}
use Rattle.command_words.specs.Options.{no_flags}
use Rattle.command_words.specs.declared.verb.Verb.{Verb}
use Rattle.command_words.specs.declared.verb.Verb.TheVariants.{Find, Insert, Ls, Mounts, Recipients, Show}
use Rattle.command_words.specs.declared.verb.Form.{Form}

-- the words of the commands
abbrev pub commands : List (Meant Verb)
commands =
    record { word = codes "find"; meaning = Find }
    ∷ record { word = codes "insert"; meaning = Insert }
    ∷ record { word = codes "list"; meaning = Ls }
    ∷ record { word = codes "ls"; meaning = Ls }
    ∷ record { word = codes "mounts"; meaning = Mounts }
    ∷ record { word = codes "recipients"; meaning = Recipients }
    ∷ record { word = codes "show"; meaning = Show }
    ∷ []

-- the command whose word this is
abbrev pub verb_at : Text → Option Verb
verb_at word = meaning_of commands word

-- how many plain words a command takes, which options, and whether its second word is to name a
-- subcommand, of which none is there
abbrev pub form_of : Verb → Form
form_of Find = record { least = 1; most = 1; flags = no_flags; has_subcommands = false }
form_of Insert = record { least = 1; most = 1; flags = record no_flags { force = true; multi = true }; has_subcommands = false }
form_of Ls = record { least = 0; most = 1; flags = record no_flags { flat = true }; has_subcommands = false }
form_of Mounts = record { least = 0; most = 0; flags = no_flags; has_subcommands = true }
form_of Recipients = record { least = 0; most = 0; flags = no_flags; has_subcommands = true }
form_of Show = record { least = 1; most = 1; flags = no_flags; has_subcommands = false }
