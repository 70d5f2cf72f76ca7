use Rattle.disk_model.proofs.MemoryLemmas.{syncs_by, only_by, stay_by}
use Rattle.disk_model.proofs.mem_disk.MemDiskDisk.sync.Goals as goal

pub returns-clause-syncs : goal.returns-clause-syncs
returns-clause-syncs c told = syncs_by c.make.result c.args.self.now c.make.new.self c.make.ensures.recorded c.make.ensures.number c.make.ensures.did c.make.ensures.rested

pub returns-clause-only : goal.returns-clause-only
returns-clause-only c = only_by c.make.result c.args.self.now c.make.new.self c.make.ensures.recorded c.make.ensures.number c.make.ensures.did

pub returns-clause-stay : goal.returns-clause-stay
returns-clause-stay c = stay_by c.make.result c.args.self.now c.make.new.self c.make.ensures.recorded c.make.ensures.rested
