use Rattle.std.proofs.Common.{false, ap, ◌∙◌}
use Rattle.disk_model.specs.Entries.{entries_of}
use Rattle.disk_model.specs.Acts.{log_of}
use Rattle.disk_model.specs.Memory.{MemoryDisk}
use Rattle.disk_model.proofs.MemoryLemmas.{stands_new}
use Rattle.disk_model.proofs.mem_disk.begin.Goals as goal

pub returns-clause-stands : goal.returns-clause-stands
returns-clause-stands c =
    let disk : MemoryDisk = record { start = entries_of c.in_ok-copy_files.field-0.items; entries = entries_of c.args.files.items; log = log_of c.new.result.items; calls = c.new-3.result; asked = 0; held = false } in
    stands_new disk (c.in_ok-copy_files.ensures ∙ ap entries_of c.deref.ensures.value) (ap log_of c.new.ensures.items)
