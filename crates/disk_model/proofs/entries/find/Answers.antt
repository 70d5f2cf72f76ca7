use Rattle.std.proofs.Common.{◌≡◌, ◌≢◌, ◌∙◌, ℕ, Vec, Global, false, get_or, ap, sym}
use Rattle.std.proofs.lemmas.List.{get_or_default}
use Rattle.gopass_base.specs.Text.{Text}
use Rattle.std.specs.Prelude.{bytes_eq}
use Rattle.std.proofs.lemmas.Slice.Eq.{bytes_eq-Decides}
use Rattle.disk_model.proofs.EntryLemmas.{found_at, missed_at}
use Rattle.disk_model.proofs.entries.find.Goals as goal

pub returns-then-eq : goal.returns-then-eq
returns-then-eq c =
    let file = get_or c.args.files.now c.loop-i.i c.index-files-i.result in
    let same : file.0 ≡ c.args.path.now = (bytes_eq-Decides file.0 c.args.path.now).0 (sym c.if-eq.ensures) in (
      c.loop-i-test.true,
      λ d. c.loop-i.invariant ∙ found_at c.args.path.now c.args.files.now c.loop-i.i c.index-files-i.result d c.loop-i-test.true same,
      λ d. ap (λ (f : Text × Vec ℕ Global). f.0) (get_or_default c.args.files.now c.loop-i.i d c.index-files-i.result c.loop-i-test.true) ∙ same,
    )

pub loop-i-preserved : goal.loop-i-preserved
loop-i-preserved c =
    let file = get_or c.args.files.now c.loop-i.i c.index-files-i.result in
    let other : file.0 ≢ c.args.path.now = λ e. (let t : false ≡ bytes_eq file.0 c.args.path.now = c.if-eq.ensures in let u = (bytes_eq-Decides file.0 c.args.path.now).1 e in cc) in
    c.loop-i.invariant ∙ missed_at c.args.path.now c.args.files.now c.loop-i.i c.index-files-i.result c.loop-i-test.true other
