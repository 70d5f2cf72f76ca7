use Rattle.std.proofs.Common.{arith, true, ◌≡◌, Some, sym, ◌∙◌, ap, subst}
use Rattle.disk_model.specs.Files.{put}
use Rattle.pending_journal.specs.Carrying.{IsUnseen, IsReady}
use Rattle.disk_model.proofs.RunLemmas.{runs_sync, runs_then}
use Rattle.pending_journal.proofs.RedoLemmas.{unseen_same, unseen_then}
use Rattle.pending_journal.proofs.CommitLemmas.{on_ok, fresh_step, ready_from}
use Rattle.pending_journal.proofs.CostLemmas.{costs_one, costs_next, costs_is, costs_err}
use Rattle.pending_journal.proofs.commit.prepare.Goals as goal

pub returns-in_err-write-clause-runs : goal.returns-in_err-write-clause-runs
returns-in_err-write-clause-runs g c told = fresh_step c.args.change.now.root c.args.change.now c.args.change.now.built _ _ _ (c.stage.ensures.runs told) (c.write.ensures.steps told)

pub returns-clause-runs : goal.returns-clause-runs
returns-clause-runs g c told =
    let root = c.args.change.now.root in
    runs_then (IsUnseen root) (unseen_same root) (unseen_then root) _ _ _ (fresh_step root c.args.change.now c.args.change.now.built _ _ _ (c.stage.ensures.runs told) (c.write.ensures.steps told))
    (runs_sync (IsUnseen root) (unseen_same root) _ _ (c.sync.ensures.syncs told))

pub returns-clause-ready : goal.returns-clause-ready
returns-clause-ready g c = on_ok c.sync.result (λ told.
    subst (IsReady c.args.change.now (g.D.Disk.meaning.view c.args.disk.now).files) (sym (c.sync.ensures.syncs told).files)
    (ready_from c.args.change.now.root c.args.change.now c.args.change.now.built _ _ _ (c.in_ok-stage.ensures.staged told)
    ((c.in_ok-write.ensures.made told).files ∙ ap (λ b. put (g.D.Disk.meaning.view c.stage.new.disk).files c.args.change.now.fresh (Some b)) c.deref.ensures.value)))

pub returns-in_err-stage-clause-costs : goal.returns-in_err-stage-clause-costs
returns-in_err-stage-clause-costs g c = costs_err c.from_residual.result c.from_residual.ensures.0 (omega arith) c.stage.ensures.costs

pub returns-in_err-write-clause-costs : goal.returns-in_err-write-clause-costs
returns-in_err-write-clause-costs g c = costs_err c.from_residual-in_err-write.result c.from_residual-in_err-write.ensures.0 (omega arith) (costs_next c.in_ok-stage.ensures.costs (costs_one {P = true ≡ true} c.write.ensures.counted c.write.ensures.later))

pub returns-clause-costs : goal.returns-clause-costs
returns-clause-costs g c = costs_is (omega arith) (λ t. t) (costs_next (costs_next c.in_ok-stage.ensures.costs (costs_one c.write.ensures.counted c.write.ensures.later)) (costs_one c.sync.ensures.counted c.sync.ensures.later))
