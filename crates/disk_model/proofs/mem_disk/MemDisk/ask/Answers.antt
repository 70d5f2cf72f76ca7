use Rattle.std.proofs.Common.{subst}
use Rattle.disk_model.specs.Disk.{Rests}
use Rattle.disk_model.specs.Memory.{MemoryDisk, view_of}
use Rattle.disk_model.proofs.mem_disk.MemDisk.ask.Goals as goal

pub returns-clause-rests : goal.returns-clause-rests
returns-clause-rests c = subst (λ (d : MemoryDisk). Rests (view_of d) (view_of c.rest.new.self)) c.self.view_is c.rest.ensures.rests
