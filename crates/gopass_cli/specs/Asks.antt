-- Whom a run asks, by its words.
use Rattle.std.specs.Prelude.{◌≡◌, ◌⊎◌, ℕ, ◌+◌, ◌≤◌, true, List, Ok}
use Rattle.gopass_base.specs.Text.{Text}
use Rattle.command_words.specs.Invocations.{invocation_of}
use Rattle.command_words.specs.Words.{words_in}
use Rattle.command_words.specs.declared.command.Command.{Command}
use Rattle.request_body.specs.Given.{takes_body}
use Rattle.gopass_cli.specs.Plan.{most_calls}

-- the words give this command
abbrev pub GiveCommand : List Text → Command → Type 0
GiveCommand words command = words_in words ≡ Ok (invocation_of command)

-- no tool is called, or the words give a command, and tools are called no more often than it may
abbrev pub CallsTools : List Text → (before now : ℕ) → Type 0
CallsTools words before now = (now ≡ before) ⊎ ((command : Command) × GiveCommand words command × (now ≤ before + most_calls command))

-- the input stays as it is, or the words give a command that takes a body
abbrev pub TakesInput : {S : Type 0} → List Text → (old new : S) → Type 0
TakesInput words old new = (new ≡ old) ⊎ ((command : Command) × GiveCommand words command × (takes_body command ≡ true))
