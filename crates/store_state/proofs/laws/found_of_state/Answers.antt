use Rattle.store_state.proofs.FoundLemmas.{agreed_found}
use Rattle.store_state.proofs.laws.found_of_state.Goals as goal

pub returns : goal.returns
returns c = λ opens root files state stands table found agree. agreed_found opens root files state stands table found agree
