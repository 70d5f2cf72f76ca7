use Rattle.disk_model.proofs.MemoryLemmas.{rests_by, recorded_by}
use Rattle.disk_model.proofs.mem_disk.MemDisk.rest.Goals as goal

pub invariant_of-self : goal.invariant_of-self
invariant_of-self c = recorded_by _ c.call.new.self c.self.invariant c.call.ensures.counts

pub returns-clause-rests : goal.returns-clause-rests
returns-clause-rests c = rests_by _ _ c.call.new.self c.self.view_is c.self.invariant c.call.ensures.counts
