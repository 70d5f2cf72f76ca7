use Rattle.mount_table.proofs.FaultOfLemmas.{name_none, name_some, none_name, some_name}
use Rattle.mount_table.proofs.faults.faults_of_names.Goals as goal

pub returns-clause-name : goal.returns-clause-name
returns-clause-name c text = (none_name text, name_none text)

pub returns-clause-fault : goal.returns-clause-fault
returns-clause-fault c text bad = (some_name text bad, name_some text bad)
