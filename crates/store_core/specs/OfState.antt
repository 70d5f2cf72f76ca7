-- What a store says of the state that its files stand for.
use Rattle.std.specs.Prelude.{IsFalse}
use Rattle.disk_model.specs.declared.disk.Disk.{Ghosts}
use Rattle.cipher_port.specs.Tool.{Opens}
use Rattle.store_state.specs.State.{State, StandsFor}
use Rattle.store_core.specs.declared.store.Store.{Store}

-- of each state that the files of the store stand for, where its disk tells and the store is not stuck
abbrev pub OfState : {D : Type 0} {G : Ghosts D} → Store D G → (State → Type 0) → Type 0
OfState {G = G} store P = G.meaning.tells → IsFalse store.vault.stuck → (opens : Opens) (state : State)
    → StandsFor opens store.vault.root (G.meaning.view store.vault.disk).files state → P state
