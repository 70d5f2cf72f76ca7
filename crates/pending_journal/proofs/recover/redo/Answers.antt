use Rattle.std.proofs.Common.{arith}
use Rattle.pending_journal.proofs.CommitLemmas.{on_ok_then}
use Rattle.pending_journal.proofs.RecoverLemmas.{settled_alike, finished_alike, finished_mended}
use Rattle.pending_journal.proofs.CostLemmas.{costs_next, costs_is, costs_err}
use Rattle.pending_journal.proofs.OpeningLemmas.{moved_from}
use Rattle.pending_journal.proofs.recover.redo.Goals as goal

pub returns-in_err-settle-clause-alike : goal.returns-in_err-settle-clause-alike
returns-in_err-settle-clause-alike g c told =
    let sealed = c.requires.sealed told in
    settled_alike c.args.change.now.root c.args.change.now c.args.change.now.built (g.D.Disk.meaning.view c.args.disk.now) sealed.0 sealed.1 (g.D.Disk.meaning.view c.settle.new.disk) (c.settle.ensures.runs told)

pub returns-clause-alike : goal.returns-clause-alike
returns-clause-alike g c told =
    let root = c.args.change.now.root in
    let ok = c.args.change.now.built in
    let sealed = c.requires.sealed told in
    let v0 = g.D.Disk.meaning.view c.args.disk.now in
    let v1 = g.D.Disk.meaning.view c.settle.new.disk in
    finished_alike root c.args.change.now ok v0 sealed.0 sealed.1 v1 (g.met.D.Disk.sound c.settle.new.disk told) (c.settle.ensures.runs told) (c.in_ok-settle.ensures.carried told) (g.D.Disk.meaning.view c.finish.new.disk)
    (settled_alike root c.args.change.now ok v0 sealed.0 sealed.1 v1 (c.settle.ensures.runs told)) (c.finish.ensures.leaves told (c.in_ok-settle.ensures.only told))

pub returns-clause-mended : goal.returns-clause-mended
returns-clause-mended g c = on_ok_then c.finish.result c.finish.ensures.ended (λ ended told.
    let root = c.args.change.now.root in
    let sealed = c.requires.sealed told in
    let v0 = g.D.Disk.meaning.view c.args.disk.now in
    let v1 = g.D.Disk.meaning.view c.settle.new.disk in
    finished_mended root c.args.change.now c.args.change.now.built v0 sealed.0 sealed.1 v1 (g.met.D.Disk.sound c.settle.new.disk told) (c.settle.ensures.runs told) (c.in_ok-settle.ensures.carried told) (g.D.Disk.meaning.view c.finish.new.disk) (ended told))

pub returns-clause-moved : goal.returns-clause-moved
returns-clause-moved g c = on_ok_then c.finish.result c.finish.ensures.ended (λ ended told.
    let change = c.args.change.now in
    let files = (g.D.Disk.meaning.view c.settle.new.disk).files in
    moved_from change.root change change.built _ files _ (c.in_ok-settle.ensures.carried told) (ended told).files)

pub returns-in_err-settle-clause-costs : goal.returns-in_err-settle-clause-costs
returns-in_err-settle-clause-costs g c = costs_err c.from_residual.result c.from_residual.ensures.0 (omega arith) c.settle.ensures.costs

pub returns-clause-costs : goal.returns-clause-costs
returns-clause-costs g c = costs_is (omega arith) (λ t. t) (costs_next c.in_ok-settle.ensures.costs c.finish.ensures.costs)
