use Rattle.mount_table.specs.Mounts.{root_of}
use Rattle.store_state.proofs.SecretLemmas.{secret_file}
use Rattle.store_core.proofs.change_of.secret_file.Goals as goal

pub returns-clause-file : goal.returns-clause-file
returns-clause-file c =
    let mounts = c.args.mounts.now in
    (secret_file (root_of mounts) mounts c.args.name.now c.in_ok-path.path c.in_ok-path.ensures.table c.in_ok-path.ensures.file, c.in_ok-bytes.ensures)
