use Rattle.store_state.proofs.StateLemmas.{one_state}
use Rattle.store_state.proofs.laws.one_state.Goals as goal

pub returns : goal.returns
returns c = one_state
