-- The statuses of a run, and what each refusal has for one.
use Rattle.std.specs.Prelude.{ℕ}
use Rattle.store_core.specs.declared.refusal.Refusal.{Refusal}
use Rattle.store_core.specs.declared.refusal.Refusal.TheVariants as why
use Rattle.gopass_cli.specs.declared.status.Status.{Status}
use Rattle.gopass_cli.specs.declared.status.Status.TheVariants.{Done, NoHit, BadWords, NotThere, IsThere, BadFile, NoRule, NotOpened, UnknownId, LimitPassed, ToolFailed, DiskFailed, NoMemory, InputFailed, SinkFailed}

-- the number by which the process tells it
abbrev pub code : Status → ℕ
code Done = 0
code NoHit = 1
code BadWords = 2
code NotThere = 3
code IsThere = 4
code BadFile = 6
code NoRule = 7
code NotOpened = 8
code UnknownId = 9
code LimitPassed = 10
code ToolFailed = 11
code DiskFailed = 12
code NoMemory = 14
code InputFailed = 15
code SinkFailed = 16

abbrev pub status_of : Refusal → Status
status_of why.NotFound = NotThere
status_of why.IsFolder = NotThere
status_of (why.Exists name) = IsThere
status_of (why.NoRule name) = NoRule
status_of (why.UnknownId id) = UnknownId
status_of (why.Full limit) = LimitPassed
status_of (why.NoKey name) = NotOpened
status_of (why.NotSealed name) = NotOpened
status_of (why.Tool name) = ToolFailed
status_of why.Disk = DiskFailed
status_of why.NoMemory = NoMemory
