-- What the answer to a command owes, told or not.
use Rattle.std.specs.Prelude.{◌≡◌, ◌+◌, ◌≤◌, ℕ, false, List, length, Contains, sum_by}
use Rattle.gopass_base.specs.Text.{Text}
use Rattle.disk_model.specs.Disk.{DiskMeaning}
use Rattle.cipher_port.specs.Tool.{Ring, ToolMeaning}
use Rattle.io_ports.specs.Source.{SourceMeaning}
use Rattle.command_words.specs.declared.command.Command.{Command}
use Rattle.store_state.specs.State.{State, StandsFor}
use Rattle.store_core.specs.Moment.{HaveRing}
use Rattle.request_body.specs.Bodies.{Input, input_of}
use Rattle.request_body.specs.Given.{takes_body}
use Rattle.gopass_cli.specs.Causes.{HasInputCause, TellsCauses}
use Rattle.gopass_cli.specs.Plan.{most_calls}
use Rattle.gopass_cli.specs.Replies.{said_in}
use Rattle.gopass_cli.specs.Run.{faults_of}
use Rattle.gopass_cli.specs.Safe.{IsSafe}
use Rattle.gopass_cli.specs.declared.reply.Reply.{Reply}

-- tools are called no more often than the command may, and are as many as they were, each with its ring; a command that takes
-- nothing leaves the input; and each fault is told where its count rose
pub record Owed {D C S : Type 0} (disks : DiskMeaning D) (meaning : ToolMeaning C) (sources : SourceMeaning S) (command : Command) (disk disk' : D) (tools tools' : List C) (input input' : S) (reply : Reply) : Type 0 where
  pub calls : sum_by meaning.calls tools' ≤ sum_by meaning.calls tools + most_calls command
  pub left : takes_body command ≡ false → input' ≡ input
  pub rings : (ring : Ring) → HaveRing meaning tools ring → HaveRing meaning tools' ring
  pub count : length tools' ≡ length tools
  pub causes : TellsCauses (faults_of disks disk meaning tools) (faults_of disks disk' meaning tools') reply.status
  pub taken : HasInputCause (input_of sources input input') (said_in reply)

-- where disk and tools tell: from any state for which the files stand, and which is one of those before, the command is safe
abbrev pub SafeFrom : {D C : Type 0} → DiskMeaning D → ToolMeaning C → Text → Command → Input → (disk disk' : D) → (tools tools' : List C) → ℕ → Type 0
SafeFrom disks meaning root command input disk disk' tools tools' status =
    (state : State) → StandsFor meaning.opens root (disks.view disk).files state
    → disks.tells → meaning.tells → (ring : Ring) → HaveRing meaning tools ring
    → (before : List State) → Contains before state
    → IsSafe meaning.opens root ring command input before (disks.view disk) (disks.view disk') (faults_of disks disk meaning tools) (faults_of disks disk' meaning tools') status
