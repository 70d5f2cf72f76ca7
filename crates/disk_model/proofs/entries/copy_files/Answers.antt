use Rattle.std.proofs.Common.{arith}
use Rattle.disk_model.proofs.EntryLemmas.{copied_more}
use Rattle.disk_model.proofs.entries.copy_files.Goals as goal

pub loop-file-preserved : goal.loop-file-preserved
loop-file-preserved c = copied_more c.args.files.now c.loop-file.copies.items c.push.new.self.items c.loop-file.file-index c.file-item.result c.in_ok-copy_file.field-0 (omega arith) c.file-item.is c.in_ok-copy_file.ensures c.loop-file.invariant c.in_ok-push.ensures.items
