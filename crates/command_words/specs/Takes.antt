-- What a command takes of the input.
use Rattle.std.specs.Prelude.{true, false, Option, None, Some}
use Rattle.command_words.specs.declared.command.Command.{Command}
use Rattle.command_words.specs.declared.command.Command.TheVariants as command
use Rattle.command_words.specs.declared.command.Intake.{Intake}
use Rattle.command_words.specs.declared.command.Intake.TheVariants.{Line, All}

-- one line for its body, or all that is left; a command without a body takes nothing
abbrev pub takes : Command → Option Intake
takes (command.Insert name force true) = Some All
takes (command.Insert name force false) = Some Line
takes _ = None
