use Rattle.std.proofs.Common.{◌≡◌, ◌<◌, ◌++◌, ◌∷◌, [], ℕ, ap, sym, subst, ◌∙◌}
use Rattle.disk_model.specs.Entries.{entries_of}
use Rattle.disk_model.specs.Acts.{act_of, log_of}
use Rattle.disk_model.specs.Memory.{MemoryDisk, IsRecorded, memory_of, rested, did}
use Rattle.disk_model.proofs.MemoryLemmas.{recorded_by, recorded_rested, recorded_did}
use Rattle.disk_model.proofs.mem_disk.MemDisk.make.Goals as goal

pub invariant_of-self : goal.invariant_of-self
invariant_of-self c = recorded_by _ c.call.new.self c.self.invariant c.call.ensures.counts

pub invariant_of-self-in_err-act : goal.invariant_of-self-in_err-act
invariant_of-self-in_err-act c = recorded_by _ c.call.new.self c.self.invariant c.call.ensures.counts

pub invariant_of-self-in_err-record : goal.invariant_of-self-in_err-record
invariant_of-self-in_err-record c =
    let held : MemoryDisk = memory_of c.self.inside.start.items c.self.inside.files.items c.self.inside.log.items c.self.inside.calls c.self.inside.asked c.self.inside.is_held in
    let new : MemoryDisk = memory_of c.self.inside.start.items c.record.new.files.items c.record.new.log.items c.call.new.self c.self.inside.asked c.self.inside.is_held in
    let same : new ≡ rested held = λ i. record { start = entries_of c.self.inside.start.items; entries = entries_of (c.in_err-record.ensures.files i); log = log_of (c.in_err-record.ensures.log i); calls = c.call.ensures.counts i; asked = c.self.inside.asked; held = c.self.inside.is_held } in
    subst IsRecorded (sym same) (recorded_rested held c.self.invariant)

pub invariant_of-self-2 : goal.invariant_of-self-2
invariant_of-self-2 c =
    let held : MemoryDisk = memory_of c.self.inside.start.items c.self.inside.files.items c.self.inside.log.items c.self.inside.calls c.self.inside.asked c.self.inside.is_held in
    let new : MemoryDisk = memory_of c.self.inside.start.items c.record.new.files.items c.record.new.log.items c.call.new.self c.self.inside.asked c.self.inside.is_held in
    let e = act_of c.in_ok-act.field-0 in
    let noted : log_of c.record.new.log.items ≡ held.log ++ (held.calls.made, e) ∷ [] = c.in_ok-record.ensures.noted ∙ ap (λ (n : ℕ). held.log ++ (n, e) ∷ []) c.made-number.ensures in
    let same : new ≡ did e held = λ i. record { start = entries_of c.self.inside.start.items; entries = c.in_ok-record.ensures.made i; log = noted i; calls = c.call.ensures.counts i; asked = c.self.inside.asked; held = c.self.inside.is_held } in
    subst IsRecorded (sym same) (recorded_did held c.self.invariant e (subst (λ (n : ℕ). n < 18446744073709551615) c.made-number.ensures c.in_ok-record.ensures.number))
