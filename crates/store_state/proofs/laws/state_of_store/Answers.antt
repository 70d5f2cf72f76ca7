use Rattle.store_state.proofs.StandsLemmas.{found_agrees, found_state, found_stands}
use Rattle.store_state.proofs.laws.state_of_store.Goals as goal

pub returns : goal.returns
returns c = λ opens root files found is. (
  found_state opens root files found is.table is,
  found_stands opens root files found is.table is,
  found_agrees opens root files found is.table is,
)
