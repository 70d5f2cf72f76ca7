use Rattle.std.proofs.Common.{◌≡◌, ◌≤◌, ℕ, true, ap, sym, subst, ◌∙◌}
use Rattle.std.proofs.lemmas.Result.{IfOk-weaker}
use Rattle.disk_model.specs.Entries.{Entries, entries_of, files_of, is_rising}
use Rattle.disk_model.specs.Acts.{before, log_of, Images}
use Rattle.disk_model.specs.Crashes.{picked}
use Rattle.disk_model.specs.Memory.{MemoryDisk, view_of}
use Rattle.disk_model.proofs.CrashLemmas.{picked_image, picked_rises}
use Rattle.disk_model.proofs.mem_disk.MemDisk.crash.Goals.{In_ok-left_at}
use Rattle.disk_model.proofs.mem_disk.MemDisk.crash.Goals as goal

pub begin-requires : goal.begin-requires
begin-requires c =
    let start : entries_of c.deref.result.now ≡ entries_of c.self.inside.start.items = ap entries_of c.deref.ensures.value in
    let acts = before c.args.moment (log_of c.deref-2.result.now) in
    subst (λ (es : Entries). is_rising es ≡ true) (sym c.in_ok-left_at.ensures)
    (picked_rises c.args.pick (entries_of c.deref.result.now) acts (subst (λ (es : Entries). is_rising es ≡ true) (sym start) c.self.invariant.start))

pub returns-clause-image : goal.returns-clause-image
returns-clause-image c =
    let disk = c.args.self.now in
    let start : entries_of c.deref.result.now ≡ disk.start = ap entries_of c.deref.ensures.value ∙ ap (λ (d : MemoryDisk). d.start) c.self.view_is in
    let log : log_of c.deref-2.result.now ≡ disk.log = ap log_of c.deref-2.ensures.value ∙ ap (λ (d : MemoryDisk). d.log) c.self.view_is in
    let left : entries_of c.in_ok-left_at.field-0.items ≡ picked c.args.pick disk.start (before c.args.moment disk.log) = c.in_ok-left_at.ensures ∙ (λ i. picked c.args.pick (start i) (before c.args.moment (log i))) in
    IfOk-weaker c.begin.result (λ d. d.entries ≡ entries_of c.in_ok-left_at.field-0.items)
    (λ d. Images (files_of disk.start) (before c.args.moment disk.log) (files_of d.entries))
    (λ d is. subst (λ (es : Entries). Images (files_of disk.start) (before c.args.moment disk.log) (files_of es)) (sym (is ∙ left)) (picked_image c.args.pick disk.start (before c.args.moment disk.log)))
    c.begin.ensures.entries

pub returns-clause-left : goal.returns-clause-left
returns-clause-left c =
    let disk = c.args.self.now in
    let start : entries_of c.deref.result.now ≡ disk.start = ap entries_of c.deref.ensures.value ∙ ap (λ (d : MemoryDisk). d.start) c.self.view_is in
    let log : log_of c.deref-2.result.now ≡ disk.log = ap log_of c.deref-2.ensures.value ∙ ap (λ (d : MemoryDisk). d.log) c.self.view_is in
    let left : entries_of c.in_ok-left_at.field-0.items ≡ picked c.args.pick disk.start (before c.args.moment disk.log) = c.in_ok-left_at.ensures ∙ (λ i. picked c.args.pick (start i) (before c.args.moment (log i))) in
    IfOk-weaker c.begin.result (λ d. d.entries ≡ entries_of c.in_ok-left_at.field-0.items)
    (λ d. (t : ℕ) → t ≤ c.args.moment → (view_of disk).left_since t (files_of d.entries))
    (λ d is t le. (
      c.args.moment,
      le,
      c.requires,
      subst (λ (es : Entries). Images (files_of disk.start) (before c.args.moment disk.log) (files_of es)) (sym (is ∙ left)) (picked_image c.args.pick disk.start (before c.args.moment disk.log)),
    ))
    c.begin.ensures.entries
