use Rattle.store_core.specs.Entries.{entries_in}
use Rattle.store_core.proofs.WithTableLemmas.{change_more, may_add_table}
use Rattle.store_core.proofs.change_of.change_and_table.Goals as goal

pub put_table-requires : goal.put_table-requires
put_table-requires c = may_add_table c.args.root.now c.args.mounts.now (entries_in c.args.edit.now) c.in_ok-change.change c.in_ok-change.ensures.change c.requires.room

pub returns-clause-change : goal.returns-clause-change
returns-clause-change c =
    change_more c.args.root.now c.args.mounts.now (entries_in c.args.edit.now) c.args.table.now c.in_ok-change.change c.put_table.new.change c.in_ok-change.ensures.change c.put_table.ensures.root c.in_ok-put_table.ensures.puts c.put_table.ensures.drops
