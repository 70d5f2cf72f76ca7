use Rattle.std.proofs.Common.{◌≢◌, length, sym, arith}
use Rattle.std.proofs.lemmas.Bool.Decides.{nat_tests}
use Rattle.store_state.proofs.FolderPathLemmas.{rest_nowhere, rest_there}
use Rattle.store_state.proofs.folder_file.rest_below.Goals as goal

pub returns-in-Some : goal.returns-in-Some
returns-in-Some c =
    let some : length c.args.alias.now ≢ 0 = grind (arith, nat_tests) in
    sym (rest_there c.args.alias.now c.args.folder.now c.in-Some.rest.now some c.in-Some.ensures)

pub returns-in-None : goal.returns-in-None
returns-in-None c =
    let some : length c.args.alias.now ≢ 0 = grind (arith, nat_tests) in
    sym (rest_nowhere c.args.alias.now c.args.folder.now some c.requires c.in-None.ensures)
