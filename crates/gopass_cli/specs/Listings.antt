-- What the functions of the commands that print what a store has ensure.
use Rattle.disk_model.specs.declared.disk.Disk.{Ghosts}
use Rattle.cipher_port.specs.Tool.{Opens}
use Rattle.store_core.specs.declared.store.Store.{Store}
use Rattle.store_state.specs.State.{State, StandsFor}
use Rattle.gopass_base.specs.Text.{Text}
use Rattle.store_core.specs.Plans.{Outcome, Plan}
use Rattle.gopass_cli.specs.Outcomes.{ComesTo, Concerns, IsInner}

-- where the disk tells: in each state that the files stand for, whatever a tool opens, it comes to this
abbrev pub InState : {D : Type 0} {G : Ghosts D} → Store D G → (State → Outcome) → Outcome → Type 0
InState {G = G} store planned outcome =
    G.meaning.tells → (opens : Opens) (state : State) → StandsFor opens store.vault.root (G.meaning.view store.vault.disk).files state → ComesTo (planned state) outcome

-- it comes to what is planned of the state, tells no fault of the outside, and names no secret
pub record Lists {D : Type 0} {G : Ghosts D} (store : Store D G) (planned : State → Plan State) (outcome : Outcome) : Type 0 where
  pub lists : InState store (λ state. (planned state).outcome) outcome
  pub own : IsInner outcome
  pub about : (subject : Text) → Concerns subject outcome
