use Rattle.store_state.proofs.OpenLemmas.{never_refused}
use Rattle.store_state.proofs.laws.states_open.Goals as goal

pub returns : goal.returns
returns c = never_refused
