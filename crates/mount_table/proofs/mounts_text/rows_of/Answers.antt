use Rattle.std.proofs.Common.{◌≡◌, ◌∷◌, ap, sym, ◌∙◌, arith, length, length-append}
use Rattle.std.specs.Prelude.{Err}
use Rattle.std.proofs.lemmas.Result.{err_from_is_err_and}
use Rattle.mount_table.specs.declared.mounts_text.MountsFault.TheVariants.{BadLine}
use Rattle.mount_table.proofs.LineLemmas.{starts, goes_on, line_is_bad}
use Rattle.mount_table.proofs.mounts_text.rows_of.Goals as goal

pub loop-line-init : goal.loop-line-init
loop-line-init c = starts c.args.root.now c.args.bytes.now c.new-rows.result.items c.new-rows.ensures.items

pub loop-line-smaller : goal.loop-line-smaller
loop-line-smaller c = omega (arith, ap length c.in-Some.ensures.cut.0, length-append c.in-Some.line.now (10 ∷ c.in-Some.after.now))

pub returns-in_err-row-clause-bad : goal.returns-in_err-row-clause-bad
returns-in_err-row-clause-bad c =
    let p = err_from_is_err_and c.from_residual.result c.from_residual.ensures.1 in
    λ n bad.
    let kind : p.0 ≡ BadLine n = (let q = sym p.1 ∙ bad in cc) in
    line_is_bad c.args.root.now c.args.bytes.now c.loop-line.rest.now c.in-Some.line.now c.in-Some.after.now c.loop-line.rows.items c.deref.result.now n c.loop-line.invariant c.in-Some.ensures.cut c.deref.ensures.value
    (c.in_err-row.ensures.bad n (ap Err (sym p.2 ∙ kind)))

pub loop-line-preserved : goal.loop-line-preserved
loop-line-preserved c =
    goes_on c.args.root.now c.args.bytes.now c.loop-line.rest.now c.in-Some.line.now c.in-Some.after.now c.loop-line.rows.items c.deref.result.now _ c.in_ok-row.row c.loop-line.invariant c.in-Some.ensures.cut
    c.in_ok-row.ensures.row c.deref.ensures.value c.in_ok-push.ensures.added
