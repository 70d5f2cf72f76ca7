-- When a run may answer a fault of the outside, whether or not the outside tells its content.
use Rattle.std.specs.Prelude.{◌≡◌, ◌≢◌, ◌⊎◌, ℕ, ◌≤◌}
use Rattle.gopass_base.specs.Faults.{HasCause, Rose}
use Rattle.io_ports.specs.Source.{Told, Grew}
use Rattle.request_body.specs.Bodies.{Input, IsOver, most_taken}
use Rattle.request_body.specs.declared.body.BodyFault.TheVariants.{Long, Failed}
use Rattle.store_core.specs.Moment.{Faults}
use Rattle.store_core.specs.Does.{AreCaused}
use Rattle.gopass_cli.specs.declared.status.Status.TheVariants.{ToolFailed, DiskFailed, InputFailed, SinkFailed}
use Rattle.gopass_cli.specs.Statuses.{code}
use Rattle.gopass_cli.specs.Said.{Said}
use Rattle.gopass_cli.specs.Requests.{body_said}

-- a fault of the tools or of the disk is told exactly where its count rose. That of the input or of a sink is not told, since none of
-- them is asked
pub record TellsCauses (old new : Faults) (status : ℕ) : Type 0 where
  pub tools : AreCaused old.tools new.tools (status ≡ code ToolFailed)
  pub disk : HasCause old.disk new.disk (status ≡ code DiskFailed)
  pub no_sink : status ≢ code SinkFailed

-- how often the disk, the tools, the input and the two sinks have failed
pub record AllFaults : Type 0 where
  pub disk : ℕ
  pub tools : ℕ
  pub input : ℕ
  pub out : ℕ
  pub err : ℕ

-- no count fell. The status of a fault comes only where its count rose; that of the input also where the input is over its limit.
-- And a count rose only with its status, or with that of a sink, which is told in place of any other: so no fault is passed over,
-- and none is told as want of memory
pub record HasAllCauses (over : Type 0) (old new : AllFaults) (status : ℕ) : Type 0 where
  pub disk_later : old.disk ≤ new.disk
  pub tools_later : old.tools ≤ new.tools
  pub input_later : old.input ≤ new.input
  pub out_later : old.out ≤ new.out
  pub err_later : old.err ≤ new.err
  pub tool : status ≡ code ToolFailed → Rose old.tools new.tools
  pub disk : status ≡ code DiskFailed → Rose old.disk new.disk
  pub input : status ≡ code InputFailed → Rose old.input new.input ⊎ over
  pub sink : status ≡ code SinkFailed → Rose old.out new.out ⊎ Rose old.err new.err
  pub tools_stay : status ≢ code ToolFailed → status ≢ code SinkFailed → new.tools ≡ old.tools
  pub disk_stays : status ≢ code DiskFailed → status ≢ code SinkFailed → new.disk ≡ old.disk
  pub input_stays : status ≢ code InputFailed → status ≢ code SinkFailed → new.input ≡ old.input
  pub out_stays : status ≢ code SinkFailed → new.out ≡ old.out
  pub err_stays : status ≢ code SinkFailed → new.err ≡ old.err

-- no count rose, and none stands at its last value
pub record NoneRose (old new : AllFaults) : Type 0 where
  pub disk : ¬ Rose old.disk new.disk
  pub tools : ¬ Rose old.tools new.tools
  pub input : ¬ Rose old.input new.input
  pub out : ¬ Rose old.out new.out
  pub err : ¬ Rose old.err new.err

-- a fault of the input is said in two ways: that the input failed, where its count rose; and that it is over its limit, where its count
-- stays and 16,777,217 bytes were taken, and where it tells what it has left that is so much
abbrev pub SaysInputFault : Input → Said → Type 0
SaysInputFault input said =
    (Rose input.old_faults input.new_faults × (said ≡ body_said Failed))
    ⊎ ((input.new_faults ≡ input.old_faults) × Grew most_taken input.old_taken input.new_taken × Told IsOver input.before input.after × (said ≡ body_said Long))

-- the count of the input did not fall, its fault is said in these two ways, and the count rose with its status alone
pub record HasInputCause (input : Input) (said : Said) : Type 0 where
  pub later : input.old_faults ≤ input.new_faults
  pub failed : said.status ≡ code InputFailed → SaysInputFault input said
  pub stays : said.status ≢ code InputFailed → input.new_faults ≡ input.old_faults
