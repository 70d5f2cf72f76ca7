use Rattle.pending_journal.specs.Change.{plan_in}
use Rattle.store_core.proofs.ChangeOfLemmas.{only_memory}
use Rattle.store_core.proofs.change_of.erase_file.Goals as goal

pub only_memory-requires : goal.only_memory-requires
only_memory-requires c =
    let old = c.args.change.now in
    only_memory old.root c.args.path (plan_in old) c.erase.result c.requires c.erase.ensures.may
