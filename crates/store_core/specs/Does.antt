-- What the function of a command ensures.
use Rattle.std.specs.Prelude.{◌≡◌, ◌≢◌, ℕ, ◌+◌, ◌≤◌, IsFalse}
use Rattle.gopass_base.specs.Text.{Text}
use Rattle.gopass_base.specs.Faults.{HasCause, Rose}
use Rattle.store_core.specs.declared.refusal.Refusal.TheVariants.{Tool, Disk, NoMemory}
use Rattle.disk_model.specs.declared.disk.Disk.{Ghosts}
use Rattle.cipher_port.specs.Tool.{Ring}
use Rattle.store_core.specs.declared.store.Store.{Store}
use Rattle.store_state.specs.State.{State, StandsFor}
use Rattle.store_core.specs.Plans.{Outcome, Refused, Plan}
use Rattle.store_core.specs.Steps.{Answer}
use Rattle.store_core.specs.Events.{Events}
use Rattle.store_core.specs.Moment.{Faults, Tools, moment_of}
use Rattle.store_core.specs.Performs.{Performs}

-- where disk and tools tell: for their ring, and each state that the files stand for, the command performs what is planned
abbrev pub Does : {D : Type 0} {G : Ghosts D} → (Ring → State → Events → Plan State) → (old new : Store D G) → (before after : Tools) → Answer → Type 0
Does {G = G} plan old new before after answer =
    G.meaning.tells → before.tells → (ring : Ring) → before.have ring → (start : State)
    → StandsFor before.opens old.vault.root (G.meaning.view old.vault.disk).files start
    → Performs (StandsFor before.opens old.vault.root) old.vault.root (plan ring start) start (moment_of old before) (moment_of new after) answer

-- of calls that may each fail: a fault is told only where the count rose, and where none is told it stays
pub record AreCaused (before now : ℕ) (Told : Type 0) : Type 0 where
  pub later : before ≤ now
  pub failed : Told → Rose before now
  pub stays : ¬ Told → now ≡ before

-- a fault of the tools or of the disk is answered exactly where its count rose: no fault is passed over, and none is told as want
-- of memory
pub record HasCauses (old new : Faults) (outcome : Outcome) : Type 0 where
  pub tools : AreCaused old.tools new.tools ((name : Text) × (outcome ≡ Refused (Tool name)))
  pub disk : HasCause old.disk new.disk (outcome ≡ Refused Disk)

-- told or not: the causes of the outcome, at most so many calls of tools, and what no command changes
pub record Keeps {D : Type 0} {G : Ghosts D} (most : ℕ) (old new : Store D G) (before after : Tools) (outcome : Outcome) : Type 0 where
  pub causes : HasCauses (moment_of old before).faults (moment_of new after).faults outcome
  pub calls : after.calls ≤ before.calls + most
  pub free : outcome ≢ Refused Disk → outcome ≢ Refused NoMemory → IsFalse new.vault.stuck
  pub root : new.vault.root ≡ old.vault.root
  pub rings : (ring : Ring) → before.have ring → after.have ring
