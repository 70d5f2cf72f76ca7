-- What a whole run ensures.
use Rattle.std.specs.Prelude.{◌≡◌, ◌≢◌, ℕ, List, Err, sum_by}
use Rattle.gopass_base.specs.Text.{Text}
use Rattle.disk_model.specs.Disk.{DiskMeaning}
use Rattle.cipher_port.specs.Tool.{Ring, ToolMeaning}
use Rattle.io_ports.specs.Sink.{SinkMeaning}
use Rattle.io_ports.specs.Source.{SourceMeaning, Told}
use Rattle.store_state.specs.State.{State}
use Rattle.store_core.specs.Events.{calm}
use Rattle.store_core.specs.Moment.{HaveRing}
use Rattle.gopass_cli.specs.declared.status.Status.TheVariants.{NoMemory}
use Rattle.gopass_cli.specs.Statuses.{code}
use Rattle.gopass_cli.specs.Said.{Said}
use Rattle.request_body.specs.Bodies.{IsOver, input_of}
use Rattle.command_words.specs.Words.{words_in}
use Rattle.gopass_cli.specs.Asks.{CallsTools, TakesInput}
use Rattle.gopass_cli.specs.Safe.{IsSafeRun, StandsForOne}
use Rattle.gopass_cli.specs.Causes.{AllFaults, HasAllCauses, HasInputCause, NoneRose}
use Rattle.gopass_cli.specs.Printed.{Prints, PrintsAll, printed, stream_of}
use Rattle.gopass_cli.specs.Run.{SaidInRun, RunSays, faults_of}

-- all that a run is given of the outside
pub record Outside (D C S O E : Type 0) : Type 0 where
  pub disk : D
  pub tools : List C
  pub input : S
  pub out : O
  pub err : E

-- and what it means
pub record Meanings (D C S O E : Type 0) : Type 1 where
  pub disk : DiskMeaning D
  pub tool : ToolMeaning C
  pub input : SourceMeaning S
  pub out : SinkMeaning O
  pub err : SinkMeaning E

abbrev pub outside : {D C S O E : Type 0} → D → List C → S → O → E → Outside D C S O E
outside disk tools input out err = record { disk = disk; tools = tools; input = input; out = out; err = err }

abbrev pub meanings : {D C S O E : Type 0} → DiskMeaning D → ToolMeaning C → SourceMeaning S → SinkMeaning O → SinkMeaning E → Meanings D C S O E
meanings disk tool input out err = record { disk = disk; tool = tool; input = input; out = out; err = err }

module _ {D C S O E : Type 0} (means : Meanings D C S O E) where
  abbrev pub all_faults : Outside D C S O E → AllFaults
  all_faults o = record {
    disk = means.disk.faults o.disk;
    tools = sum_by means.tool.faults o.tools;
    input = means.input.faults o.input;
    out = means.out.faults o.out;
    err = means.err.faults o.err;
  }

  -- told or not: what is printed is an answer, by which a fault of the outside is told exactly where its count rose
  pub record RanWithCauses (old new : Outside D C S O E) (status : ℕ) : Type 0 where
    pub causes : HasAllCauses (Told IsOver (means.input.left old.input) (means.input.left new.input)) (all_faults old) (all_faults new) status
    pub said : Said
    pub input : HasInputCause (input_of means.input old.input new.input) said
    pub prints : Prints (printed said) status (stream_of means.out old.out) (stream_of means.out new.out) (stream_of means.err old.err) (stream_of means.err new.err)

  -- tools are called no more often than the command may that the words give, and the input stays as it is for one that takes no
  -- body; bad words ask nobody
  pub record AsksOnly (words : List Text) (old new : Outside D C S O E) : Type 0 where
    pub calls : CallsTools words (sum_by means.tool.calls old.tools) (sum_by means.tool.calls new.tools)
    pub left : TakesInput words old.input new.input
    pub nobody : (at : ℕ) → words_in words ≡ Err at → (new.disk ≡ old.disk) × (new.tools ≡ old.tools) × (new.input ≡ old.input)

  -- where disk and tools tell
  abbrev pub IfTold : Outside D C S O E → (Ring → Type 0) → Type 0
  IfTold old P = means.disk.tells → means.tool.tells → (ring : Ring) → HaveRing means.tool old.tools ring → P ring

  -- where disk and tools tell: the run says what is defined for some events, tied to what happened, and prints it
  abbrev pub Ran : List Text → Text → (old new : Outside D C S O E) → ℕ → Type 0
  Ran words root old new status = IfTold old (λ ring.
      (said : Said)
      × SaidInRun (RunSays words means.tool.opens root (means.disk.view old.disk).files (input_of means.input old.input new.input) ring) (faults_of means.disk old.disk means.tool old.tools) (faults_of means.disk new.disk means.tool new.tools) said
      × Prints (printed said) status (stream_of means.out old.out) (stream_of means.out new.out) (stream_of means.err old.err) (stream_of means.err new.err))

  -- where nothing failed either, and there was memory: the run says what is defined where nothing fails, and all of it is printed
  abbrev pub RanCalmly : List Text → Text → (old new : Outside D C S O E) → ℕ → Type 0
  RanCalmly words root old new status = IfTold old (λ ring.
      NoneRose (all_faults old) (all_faults new) → status ≢ code NoMemory →
      (said : Said)
      × RunSays words means.tool.opens root (means.disk.view old.disk).files (input_of means.input old.input new.input) ring calm said
      × PrintsAll (printed said) status (stream_of means.out old.out) (stream_of means.out new.out) (stream_of means.err old.err) (stream_of means.err new.err))

  -- the crash promise, where disk and tools tell: if what a crash could leave at the start stands for one of some states, then
  -- what it leaves at any moment of the run stands for one of them, or of those through which the plan of the command goes
  abbrev pub RanSafely : List Text → Text → (old new : Outside D C S O E) → ℕ → Type 0
  RanSafely words root old new status = IfTold old (λ ring.
      (before : List State) → StandsForOne means.tool.opens root before (means.disk.view old.disk)
      → IsSafeRun means.tool.opens root ring words (input_of means.input old.input new.input) before
      (means.disk.view old.disk) (means.disk.view new.disk) (faults_of means.disk old.disk means.tool old.tools) (faults_of means.disk new.disk means.tool new.tools) status)
