-- What is printed of an answer.
use Rattle.std.specs.Prelude.{◌≡◌, ◌⊎◌, ◌==◌, ℕ, codes, Option, if◌then◌else◌}
use Rattle.gopass_base.specs.Text.{Text}
use Rattle.gopass_base.specs.Faults.{Rose}
use Rattle.io_ports.specs.Sink.{SinkMeaning, Took, TookPart}
use Rattle.gopass_cli.specs.declared.status.Status.TheVariants.{NoMemory, SinkFailed}
use Rattle.gopass_cli.specs.Statuses.{code}
use Rattle.gopass_cli.specs.Said.{Said}
use Rattle.gopass_cli.specs.Texts.{err_line}

-- a sink at a moment: what it took, where it tells it, and how often a call failed
pub record Stream : Type 0 where
  pub held : Option Text
  pub faults : ℕ

abbrev pub stream_of : {O : Type 0} → SinkMeaning O → O → Stream
stream_of meaning sink = record { held = meaning.held sink; faults = meaning.faults sink }

-- the answer as it is printed: that of want of memory has a line that needs none
abbrev pub printed : Said → Said
printed said = record said { err = if said.status == code NoMemory then err_line (codes "out of memory") else said.err }

-- a call of the sink failed, and it took a first part of the bytes
pub record Stops (old new : Stream) (bytes : Text) : Type 0 where
  pub part : TookPart old.held new.held bytes
  pub rose : Rose old.faults new.faults

-- each sink took its bytes, and the status is that of the answer
pub record PrintsAll (said : Said) (status : ℕ) (out out' err err' : Stream) : Type 0 where
  pub status_is : status ≡ said.status
  pub took_out : Took out.held out'.held said.out
  pub took_err : Took err.held err'.held said.err

-- standard output failed, and standard error was not begun
pub record StopsAtOut (said : Said) (status : ℕ) (out out' err err' : Stream) : Type 0 where
  pub status_is : status ≡ code SinkFailed
  pub stops : Stops out out' said.out
  pub rests : err'.held ≡ err.held

-- standard error failed behind all of standard output
pub record StopsAtErr (said : Said) (status : ℕ) (out out' err err' : Stream) : Type 0 where
  pub status_is : status ≡ code SinkFailed
  pub took_out : Took out.held out'.held said.out
  pub stops : Stops err err' said.err

-- the answer is printed, first the bytes of standard output, as far as the sinks take it
abbrev pub Prints : Said → ℕ → (out out' err err' : Stream) → Type 0
Prints said status out out' err err' = PrintsAll said status out out' err err' ⊎ (StopsAtOut said status out out' err err' ⊎ StopsAtErr said status out out' err err')
