use Rattle.std.proofs.Common.{refl}
use Rattle.disk_model.specs.Acts.{Rename}
use Rattle.disk_model.proofs.MemoryLemmas.{did_by, steps_by, made_by}
use Rattle.disk_model.proofs.mem_disk.MemDiskDisk.rename.Goals as goal

pub returns-clause-steps : goal.returns-clause-steps
returns-clause-steps c told =
    let e = Rename c.args.from.now c.args.to.now in
    steps_by c.make.result e c.args.self.now c.make.new.self refl c.make.ensures.recorded c.make.ensures.number
    (did_by c.make.result c.renamed-act.result e c.args.self.now c.make.new.self c.make.ensures.did c.renamed-act.ensures) c.make.ensures.rested

pub returns-clause-made : goal.returns-clause-made
returns-clause-made c =
    let e = Rename c.args.from.now c.args.to.now in
    made_by c.make.result e c.args.self.now c.make.new.self refl c.make.ensures.recorded c.make.ensures.number
    (did_by c.make.result c.renamed-act.result e c.args.self.now c.make.new.self c.make.ensures.did c.renamed-act.ensures)
