-- Why a command is refused.
use Rattle.std.specs.Prelude.{◌≡◌, Result, Ok, Err}
use Rattle.gopass_base.specs.Text.{Text}
use Rattle.store_core.specs.declared.read_fault.ReadFault.{ReadFault}
use Rattle.store_core.specs.declared.read_fault.ReadFault.TheVariants.{Disk as ReadDisk, NoMemory as ReadNoMemory}
use Rattle.store_core.specs.declared.edit.ApplyFault.{ApplyFault}
use Rattle.store_core.specs.declared.edit.ApplyFault.TheVariants.{Disk as ApplyDisk, NoMemory as ApplyNoMemory}
use Rattle.store_core.specs.declared.refusal.Refusal.{Refusal}
use Rattle.store_core.specs.declared.refusal.Refusal.TheVariants.{Exists, NoRule, NoKey, NotSealed, Tool, Disk, NoMemory}

-- what a fault of a reading makes a command answer
abbrev pub refusal_by_read : ReadFault → Refusal
refusal_by_read ReadDisk = Disk
refusal_by_read ReadNoMemory = NoMemory

-- a refusal that names a secret names this one
abbrev pub IsAbout : Text → Refusal → Type 0
IsAbout name (Exists other) = other ≡ name
IsAbout name (NoRule other) = other ≡ name
IsAbout name (NoKey other) = other ≡ name
IsAbout name (NotSealed other) = other ≡ name
IsAbout name (Tool other) = other ≡ name
IsAbout name _ = Unit {0}

-- what an edit answers, as a command does
abbrev pub as_refused : Result (Unit {0}) ApplyFault → Result (Unit {0}) Refusal
as_refused (Ok done) = Ok done
as_refused (Err ApplyDisk) = Err Disk
as_refused (Err ApplyNoMemory) = Err NoMemory
