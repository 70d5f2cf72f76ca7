use Rattle.std.proofs.Common.{◌≢◌, length, arith}
use Rattle.std.proofs.lemmas.Bool.Decides.{nat_tests}
use Rattle.mount_table.proofs.FolderNames.{folder_answer}
use Rattle.mount_table.proofs.folder.folder_fault.Goals as goal

pub returns : goal.returns
returns c =
    let some : length c.args.text.now ≢ 0 = grind (arith, nat_tests) in
    folder_answer c.fault_in.result c.args.text.now (omega arith) c.fault_in.ensures
