use Rattle.std.proofs.Common.{◌≡◌, ap, sym, subst, ◌∙◌}
use Rattle.disk_model.specs.Files.{Files}
use Rattle.disk_model.specs.Entries.{Entries, entries_of}
use Rattle.disk_model.specs.Listing.{Lists, IsAtMost, paths_in}
use Rattle.disk_model.specs.Memory.{MemoryDisk}
use Rattle.disk_model.proofs.ListingLemmas.{lists_of}
use Rattle.disk_model.proofs.MemoryLemmas.{view_files}
use Rattle.disk_model.proofs.mem_disk.MemDiskDisk.list.Goals as goal

pub returns-clause-listed : goal.returns-clause-listed
returns-clause-listed c told =
    let old = c.args.self.now in
    let listed = c.in_ok-list.field-0 in
    let same : entries_of c.deref.result.now ≡ old.entries = ap entries_of c.deref.ensures.value ∙ ap (λ (d : MemoryDisk). d.entries) (c.self.view_is ∙ c.ask.ensures.asked) in
    subst (λ (files : Files). Lists files c.args.dir.now c.args.max listed) (sym (view_files old c.ask.ensures.recorded))
    (lists_of old.entries c.args.dir.now c.args.max listed c.ask.ensures.recorded.rising (subst (λ (es : Entries). IsAtMost (paths_in c.args.dir.now es) c.args.max listed) same c.in_ok-list.ensures.content))
