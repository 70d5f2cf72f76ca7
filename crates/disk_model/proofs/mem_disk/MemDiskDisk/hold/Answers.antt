use Rattle.std.proofs.Common.{subst, sym}
use Rattle.disk_model.specs.Disk.{Rests}
use Rattle.disk_model.specs.Memory.{MemoryDisk, view_of}
use Rattle.disk_model.proofs.mem_disk.MemDiskDisk.hold.Goals as goal

pub returns-clause-rests : goal.returns-clause-rests
returns-clause-rests c told = subst (λ (d : MemoryDisk). Rests (view_of c.args.self.now) (view_of d)) (sym c.self.view_is) c.rest.ensures.rests
