use Rattle.store_state.proofs.NameLemmas.{names_found}
use Rattle.store_state.proofs.laws.names_of_secrets.Goals as goal

pub returns : goal.returns
returns c = λ root files found is. names_found root files found is.table is
