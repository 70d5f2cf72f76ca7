-- Why a store is not opened, and what is known then.
use Rattle.std.specs.Prelude.{Result, Ok, Err}
use Rattle.disk_model.specs.declared.disk.DiskFault.{DiskFault}
use Rattle.disk_model.specs.declared.disk.DiskFault.TheVariants.{Failed, NoMemory as NoRoom}
use Rattle.path_rules.specs.declared.rules.RulesFault.{RulesFault}
use Rattle.path_rules.specs.declared.rules.RulesFault.TheVariants.{Full as NoRulesRoom, NoMemory as NoRulesMemory}
use Rattle.store_state.specs.declared.fault.Limit.TheVariants as limit
use Rattle.store_state.specs.declared.fault.StoreFault.{StoreFault}
use Rattle.store_state.specs.declared.fault.StoreFault.TheVariants.{BadFile, Full, Disk, NoMemory}

-- what a fault of the disk makes an opening answer
abbrev pub store_fault_by_disk : DiskFault → StoreFault
store_fault_by_disk Failed = Disk
store_fault_by_disk NoRoom = NoMemory

-- and a fault of rules
abbrev pub store_fault_by_rules : RulesFault → StoreFault
store_fault_by_rules NoRulesRoom = Full limit.Rules
store_fault_by_rules NoRulesMemory = NoMemory

-- a value for which this holds; or a fault, of which a limit of files tells this, and no other limit or file is named
abbrev pub GivesOrFull : {X : Type 0} → (X → Type 0) → Type 0 → Result X StoreFault → Type 0
GivesOrFull Is full (Ok x) = Is x
GivesOrFull Is full (Err (Full limit.Files)) = full
GivesOrFull Is full (Err Disk) = Unit {0}
GivesOrFull Is full (Err NoMemory) = Unit {0}
GivesOrFull Is full (Err _) = ⊥

-- the files are the reason
abbrev pub IsFileFault : StoreFault → Type 0
IsFileFault (BadFile path line) = Unit {0}
IsFileFault (Full kind) = Unit {0}
IsFileFault Disk = ⊥
IsFileFault NoMemory = ⊥
