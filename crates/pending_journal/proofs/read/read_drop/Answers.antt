use Rattle.std.proofs.Common.{◌≡◌, sym, ◌∙◌}
use Rattle.std.proofs.lemmas.Result.{err_from_is_err_and}
use Rattle.pending_journal.specs.Change.{plan_in}
use Rattle.pending_journal.specs.declared.read.LineFault.TheVariants.{Bad}
use Rattle.pending_journal.proofs.ReadLemmas.{drop_refused}
use Rattle.pending_journal.proofs.read.read_drop.Goals as goal

pub returns-in_err-erase-clause-bad : goal.returns-in_err-erase-clause-bad
returns-in_err-erase-clause-bad c =
    let p = err_from_is_err_and c.from_residual-in_err-erase.result c.from_residual-in_err-erase.ensures.1 in
    λ bad.
    let kind : p.0 ≡ Bad = (let q = sym p.1 ∙ bad in cc) in
    drop_refused c.args.change.now.root (plan_in c.args.change.now) c.in_ok-path.path c.args.path.now c.in_err-erase.field-0.0 c.in_err-erase.ensures.may c.in_ok-path.ensures.path (sym p.2 ∙ kind)
