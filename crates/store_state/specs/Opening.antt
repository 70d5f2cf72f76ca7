-- What the opening of a store finds, or what refuses it.
use Rattle.std.specs.Prelude.{◌≡◌, ◌≢◌, ◌⊎◌, ℕ, ◌+◌, ◌<◌, ◌≤◌, List, length, All, Contains, Option, None, Some, Result, Ok, Err}
use Rattle.gopass_base.specs.Text.{Text}
use Rattle.mount_table.specs.Mounts.{IsTable, root_of, most_mounts}
use Rattle.mount_table.specs.MountsText.{IsFirstBad}
use Rattle.mount_table.specs.declared.mounts.Row.{Row}
use Rattle.disk_model.specs.Files.{Files}
use Rattle.path_rules.specs.Limits.{most_rules}
use Rattle.store_state.specs.Limits.{most_files, most_mounts_bytes, most_secrets}
use Rattle.store_state.specs.declared.fault.Limit.TheVariants as limit
use Rattle.store_state.specs.declared.fault.StoreFault.{StoreFault}
use Rattle.store_state.specs.declared.fault.StoreFault.TheVariants.{BadFile, Full, Disk, NoMemory}
use Rattle.store_state.specs.declared.seen.Seen.{Seen}
use Rattle.store_state.specs.declared.opening.Found.{Found}
use Rattle.store_state.specs.Order.{AreRising}
use Rattle.store_state.specs.Survey.{IsFullMount, IsSurvey}
use Rattle.store_state.specs.State.{AreMounts, mounts_path, pending_path}
use Rattle.store_state.specs.RuleFiles.{AreRules, IsBadThere}

-- the first bad line of a mounts file; 0 where it has more bytes than it may
abbrev pub IsBadMounts : (root bytes : Text) → ℕ → Type 0
IsBadMounts root bytes line =
    ((length bytes ≤ most_mounts_bytes) × IsFirstBad root bytes line)
    ⊎ ((most_mounts_bytes < length bytes) × (line ≡ 0))

-- the mounts that the file tells, or its first bad line
abbrev pub TellsMounts : (root : Text) → Option Text → Result (List Row) StoreFault → Type 0
TellsMounts root file (Ok mounts) = AreMounts root file mounts
TellsMounts root file (Err (BadFile path line)) = (path ≡ mounts_path root) × (bytes : Text) × (file ≡ Some bytes) × IsBadMounts root bytes line
TellsMounts root file (Err Disk) = Unit {0}
TellsMounts root file (Err NoMemory) = Unit {0}
TellsMounts root file (Err (Full kind)) = ⊥

-- no pending file is there; one that is there is bad at line 1, since it is not read yet
abbrev pub TellsPending : {X : Type 0} → (root : Text) → Option Text → Result X StoreFault → Type 0
TellsPending root file (Ok done) = file ≡ None
TellsPending root file (Err (BadFile path line)) = (path ≡ pending_path root) × (line ≡ 1) × (file ≢ None)
TellsPending root file (Err Disk) = Unit {0}
TellsPending root file (Err NoMemory) = Unit {0}
TellsPending root file (Err (Full kind)) = ⊥

-- what an opening finds: the mounts that the mounts file tells, no pending file, what lies below the mounts, and the rules
pub record IsFound (root : Text) (files : Files) (found : Found) : Type 0 where
  pub mounts_are : AreMounts root (files (mounts_path root)) found.mounts
  pub table : IsTable root found.mounts
  pub no_pending : files (pending_path root) ≡ None
  pub survey : IsSurvey root files found.mounts found.seen found.counts.items
  pub rising : AreRising found.seen
  pub few_rules : length found.seen.rules.items ≤ most_rules
  pub few : length found.seen.names.items ≤ most_secrets
  pub rules_are : AreRules root files found.mounts found.seen.rules.items found.rules

-- what is found at most, whether or not the disk tells: so many mounts, of which the first is the root directory, rules,
-- secrets, and files below each mount
pub record IsWithinLimits (root : Text) (found : Found) : Type 0 where
  pub rooted : root_of found.mounts ≡ root
  pub few_mounts : length found.mounts ≤ most_mounts
  pub few_rules : length found.seen.rules.items ≤ most_rules
  pub few_secrets : length found.seen.names.items ≤ most_secrets
  pub few_files : All (λ (n : ℕ). n ≤ most_files) found.counts.items

-- how many calls of the disk an opening takes: one for the mounts file, one for the pending file, one listing for each
-- mount, and one reading for each rule
abbrev pub opening_calls : Found → ℕ
opening_calls found = 2 + length found.mounts + length found.seen.rules.items

-- and how many it takes at most, where it is refused too
abbrev pub most_opening_calls : ℕ
most_opening_calls = 2 + most_mounts + most_rules

-- the mounts file is bad
abbrev pub HasBadMounts : (root : Text) → Files → (path : Text) → ℕ → Type 0
HasBadMounts root files path line = (path ≡ mounts_path root) × (bytes : Text) × (files (mounts_path root) ≡ Some bytes) × IsBadMounts root bytes line

-- the mounts file is good, and a pending file is there
abbrev pub HasPending : (root : Text) → Files → (path : Text) → ℕ → Type 0
HasPending root files path line = (mounts : List Row) × AreMounts root (files (mounts_path root)) mounts × (path ≡ pending_path root) × (line ≡ 1) × (files (pending_path root) ≢ None)

-- the mounts file is good, no pending file is there, and a mount has too many files
abbrev pub HasManyFiles : (root : Text) → Files → Type 0
HasManyFiles root files = (mounts : List Row) × AreMounts root (files (mounts_path root)) mounts × (files (pending_path root) ≡ None) × IsFullMount root files mounts

-- the mounts file is good, no pending file is there, and this lies below the mounts
pub record IsSurveyed (root : Text) (files : Files) (mounts : List Row) (seen : Seen) : Type 0 where
  pub mounts_are : AreMounts root (files (mounts_path root)) mounts
  pub no_pending : files (pending_path root) ≡ None
  pub counts : List ℕ
  pub survey : IsSurvey root files mounts seen counts
  pub rising : AreRising seen

-- no mount has too many files, and there are too many rules
abbrev pub HasManyRules : (root : Text) → Files → Type 0
HasManyRules root files = (mounts : List Row) × (seen : Seen) × IsSurveyed root files mounts seen × (most_rules < length seen.rules.items)

-- there are not too many rules, and too many secrets
abbrev pub HasManySecrets : (root : Text) → Files → Type 0
HasManySecrets root files =
    (mounts : List Row) × (seen : Seen) × IsSurveyed root files mounts seen × (length seen.rules.items ≤ most_rules) × (most_secrets < length seen.names.items)

-- there are not too many of either, and a rule file is bad
abbrev pub HasBadRule : (root : Text) → Files → (path : Text) → ℕ → Type 0
HasBadRule root files path line =
    (mounts : List Row) × (seen : Seen) × IsSurveyed root files mounts seen × (length seen.rules.items ≤ most_rules) × (length seen.names.items ≤ most_secrets)
    × (folder : Text) × Contains seen.rules.items folder × IsBadThere root files mounts folder path line

-- what is found, or the first of these that refuses it
abbrev pub OpensStore : (root : Text) → Files → Result Found StoreFault → Type 0
OpensStore root files (Ok found) = IsFound root files found
OpensStore root files (Err (BadFile path line)) = HasBadMounts root files path line ⊎ (HasPending root files path line ⊎ HasBadRule root files path line)
OpensStore root files (Err (Full limit.Files)) = HasManyFiles root files
OpensStore root files (Err (Full limit.Rules)) = HasManyRules root files
OpensStore root files (Err (Full limit.Secrets)) = HasManySecrets root files
OpensStore root files (Err Disk) = Unit {0}
OpensStore root files (Err NoMemory) = Unit {0}
OpensStore root files (Err (Full _)) = ⊥
