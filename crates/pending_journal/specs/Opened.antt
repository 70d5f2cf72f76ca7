-- What the opening of a vault gives, and what its readings keep.
use Rattle.std.specs.Prelude.{◌≡◌, IsFalse}
use Rattle.gopass_base.specs.Text.{Text}
use Rattle.disk_model.specs.Disk.{Rests}
use Rattle.disk_model.specs.declared.disk.Disk.{Ghosts}
use Rattle.pending_journal.specs.declared.vault.Vault.{Vault}
use Rattle.pending_journal.specs.declared.fault.VaultFault.{VaultFault}
use Rattle.pending_journal.specs.declared.open_vault.VaultOpened.{VaultOpened}
use Rattle.pending_journal.specs.declared.open_vault.VaultOpened.TheVariants.{Ready, Refused}

-- a vault that was just opened: nothing was committed, and nothing is stuck
pub record IsFresh {D : Type 0} {G : Ghosts D} (root : Text) (vault : Vault D G) : Type 0 where
  pub root_is : vault.root ≡ root
  pub none_yet : vault.commits ≡ 0
  pub free : IsFalse vault.stuck

-- of the vault, where there is one
abbrev pub IfVaultReady : {D : Type 0} {G : Ghosts D} → VaultOpened D G → (Vault D G → Type 0) → Type 0
IfVaultReady (Ready vault) P = P vault
IfVaultReady (Refused fault disk) P = Unit {0}

-- of the fault and the disk that is handed back
abbrev pub IfVaultRefused : {D : Type 0} {G : Ghosts D} → VaultOpened D G → (VaultFault → D → Type 0) → Type 0
IfVaultRefused (Ready vault) P = Unit {0}
IfVaultRefused (Refused fault disk) P = P fault disk

-- of the disk, in the vault or handed back
abbrev pub OnDisk : {D : Type 0} {G : Ghosts D} → VaultOpened D G → (D → Type 0) → Type 0
OnDisk (Ready vault) P = P vault.disk
OnDisk (Refused fault disk) P = P disk

-- a call that only reads: root, commits and whether it is stuck stay, and where the disk tells nothing of it changes but the time
pub record OnlyReads {D : Type 0} {G : Ghosts D} (old new : Vault D G) : Type 0 where
  pub root : new.root ≡ old.root
  pub commits : new.commits ≡ old.commits
  pub stuck : new.stuck ≡ old.stuck
  pub rests : G.meaning.tells → Rests (G.meaning.view old.disk) (G.meaning.view new.disk)
