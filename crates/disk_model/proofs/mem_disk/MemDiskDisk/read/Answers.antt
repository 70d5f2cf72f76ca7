use Rattle.std.proofs.Common.{◌≡◌, ap, sym, subst, ◌∙◌}
use Rattle.disk_model.specs.Files.{Files}
use Rattle.disk_model.specs.Answers.{Reads}
use Rattle.disk_model.specs.Entries.{entries_of, files_of}
use Rattle.disk_model.specs.Memory.{MemoryDisk}
use Rattle.disk_model.proofs.MemoryLemmas.{view_files}
use Rattle.disk_model.proofs.mem_disk.MemDiskDisk.read.Goals as goal

pub returns-clause-got : goal.returns-clause-got
returns-clause-got c told =
    let old = c.args.self.now in
    let same : entries_of c.deref.result.now ≡ old.entries = ap entries_of c.deref.ensures.value ∙ ap (λ (d : MemoryDisk). d.entries) (c.self.view_is ∙ c.ask.ensures.asked) in
    subst (λ (files : Files). Reads (files c.args.path.now) c.args.max c.in_ok-read.field-0) (ap files_of same ∙ sym (view_files old c.ask.ensures.recorded)) c.in_ok-read.ensures.got
