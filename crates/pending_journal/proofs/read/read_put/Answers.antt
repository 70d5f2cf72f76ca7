use Rattle.std.proofs.Common.{◌≡◌, sym, ◌∙◌}
use Rattle.std.proofs.lemmas.Result.{err_from_is_err_and}
use Rattle.pending_journal.specs.Change.{plan_in}
use Rattle.pending_journal.specs.declared.read.LineFault.TheVariants.{Bad}
use Rattle.pending_journal.proofs.ReadLemmas.{put_refused, put_made}
use Rattle.pending_journal.proofs.read.read_put.Goals as goal

pub returns-in_err-put-clause-bad : goal.returns-in_err-put-clause-bad
returns-in_err-put-clause-bad c =
    let p = err_from_is_err_and c.from_residual-in_err-put.result c.from_residual-in_err-put.ensures.1 in
    λ bad none.
    let kind : p.0 ≡ Bad = (let q = sym p.1 ∙ bad in cc) in
    put_refused c.args.change.now.root (plan_in c.args.change.now) c.in_ok-path.path c.args.path.now c.in_err-put.field-0.0 c.in_err-put.ensures.may c.in_ok-path.ensures.path (sym p.2 ∙ kind) none

pub returns-clause-step : goal.returns-clause-step
returns-clause-step c = put_made c.args.change.now c.put.new.self c.in_ok-path.path c.args.path.now c.new.result.items c.in_ok-put.ensures.added c.in_ok-put.ensures.drops c.in_ok-path.ensures.path
