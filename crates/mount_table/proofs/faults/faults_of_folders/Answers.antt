use Rattle.mount_table.proofs.FaultOfLemmas.{folder_none, folder_some, none_folder, some_folder}
use Rattle.mount_table.proofs.faults.faults_of_folders.Goals as goal

pub returns-clause-folder : goal.returns-clause-folder
returns-clause-folder c text = (none_folder text, folder_none text)

pub returns-clause-fault : goal.returns-clause-fault
returns-clause-fault c text bad = (some_folder text bad, λ fault. folder_some text bad fault.0 fault.1)
