use Rattle.disk_model.proofs.MemoryLemmas.{shown_files}
use Rattle.disk_model.proofs.mem_disk.MemDisk.files.Goals as goal

pub returns-clause-shown : goal.returns-clause-shown
returns-clause-shown c = shown_files _ _ c.self.view_is c.self.invariant
