-- Options without a value.
use Rattle.std.specs.Prelude.{Bool, true, false, List, [], ◌∷◌, Option, codes}
use Rattle.gopass_base.specs.Text.{Text}
use Rattle.command_words.specs.Lookup.{Meant, meaning_of}
use Rattle.command_words.specs.declared.options.Flag.{Flag}
use Rattle.command_words.specs.declared.options.Flag.TheVariants.{Flat, Force, Multi}
use Rattle.command_words.specs.declared.options.Flags.{Flags}

-- the spellings of the options
abbrev pub spellings : List (Meant Flag)
spellings =
    record { word = codes "--flat"; meaning = Flat }
    ∷ record { word = codes "--force"; meaning = Force }
    ∷ record { word = codes "--multiline"; meaning = Multi }
    ∷ record { word = codes "-f"; meaning = Force }
    ∷ record { word = codes "-m"; meaning = Multi }
    ∷ []

-- the option that a word spells
abbrev pub flag_at : Text → Option Flag
flag_at word = meaning_of spellings word

abbrev pub no_flags : Flags
no_flags = record { flat = false; force = false; multi = false }

-- whether an option is in a set
abbrev pub has : Flags → Flag → Bool
has flags Flat = flags.flat
has flags Force = flags.force
has flags Multi = flags.multi

-- a set with one option more
abbrev pub with : Flags → Flag → Flags
with flags Flat = record flags { flat = true }
with flags Force = record flags { force = true }
with flags Multi = record flags { multi = true }
