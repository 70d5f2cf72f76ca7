use Rattle.std.proofs.Common.{arith, List, length, ap, sym, subst}
use Rattle.gopass_base.specs.Text.{Text}
use Rattle.disk_model.specs.Runs.{Runs}
use Rattle.pending_journal.specs.Carrying.{IsOfPlan, IsSameBut, IsRemoved, IsCarried}
use Rattle.pending_journal.specs.Change.{plan_in}
use Rattle.disk_model.proofs.RunLemmas.{runs_sync, runs_then, runs_weaken}
use Rattle.pending_journal.proofs.RedoLemmas.{plan_same, plan_then}
use Rattle.pending_journal.proofs.ChangeLemmas.{drops_kept}
use Rattle.pending_journal.proofs.CommitLemmas.{on_ok, carried_from}
use Rattle.pending_journal.proofs.CostLemmas.{costs_one, costs_next, costs_is, costs_err}
use Rattle.pending_journal.proofs.commit.settle.Goals as goal

pub returns-in_err-remove_all-clause-runs : goal.returns-in_err-remove_all-clause-runs
returns-in_err-remove_all-clause-runs g c told =
    let change = c.args.change.now in
    let root = change.root in
    let plan = plan_in change in
    let v1 = g.D.Disk.meaning.view c.fetch.new.disk in
    let v2 = g.D.Disk.meaning.view c.remove_all.new.disk in
    runs_then (IsOfPlan root plan) (plan_same root plan) (plan_then root plan) _ _ _ (c.fetch.ensures.runs told)
    (runs_weaken (IsSameBut change.drops.items) (IsOfPlan root plan) v1 v2 (drops_kept root change change.built)
    (subst (λ (ps : List Text). Runs (IsSameBut ps) v1 v2) c.deref.ensures.value (c.remove_all.ensures.runs told)))

pub returns-clause-runs : goal.returns-clause-runs
returns-clause-runs g c told =
    let change = c.args.change.now in
    let root = change.root in
    let plan = plan_in change in
    let v1 = g.D.Disk.meaning.view c.fetch.new.disk in
    let v2 = g.D.Disk.meaning.view c.remove_all.new.disk in
    runs_then (IsOfPlan root plan) (plan_same root plan) (plan_then root plan) _ _ _
    (runs_then (IsOfPlan root plan) (plan_same root plan) (plan_then root plan) _ _ _ (c.fetch.ensures.runs told)
    (runs_weaken (IsSameBut change.drops.items) (IsOfPlan root plan) v1 v2 (drops_kept root change change.built)
    (subst (λ (ps : List Text). Runs (IsSameBut ps) v1 v2) c.deref.ensures.value (c.remove_all.ensures.runs told))))
    (runs_sync (IsOfPlan root plan) (plan_same root plan) _ _ (c.sync.ensures.syncs told))

pub returns-in_err-fetch-clause-costs : goal.returns-in_err-fetch-clause-costs
returns-in_err-fetch-clause-costs g c = costs_err c.from_residual.result c.from_residual.ensures.0 (omega arith) c.fetch.ensures.costs

pub returns-in_err-remove_all-clause-costs : goal.returns-in_err-remove_all-clause-costs
returns-in_err-remove_all-clause-costs g c = costs_err c.from_residual-in_err-remove_all.result c.from_residual-in_err-remove_all.ensures.0 (omega (arith, ap length c.deref.ensures.value)) (costs_next c.in_ok-fetch.ensures.costs c.remove_all.ensures.costs)

pub returns-clause-costs : goal.returns-clause-costs
returns-clause-costs g c = costs_is (omega (arith, ap length c.deref.ensures.value)) (λ t. t) (costs_next (costs_next c.in_ok-fetch.ensures.costs c.in_ok-remove_all.ensures.costs) (costs_one c.sync.ensures.counted c.sync.ensures.later))

pub returns-clause-carried : goal.returns-clause-carried
returns-clause-carried g c = on_ok c.sync.result (λ told.
    let change = c.args.change.now in
    let f0 = (g.D.Disk.meaning.view c.args.disk.now).files in
    let f1 = (g.D.Disk.meaning.view c.fetch.new.disk).files in
    let f2 = (g.D.Disk.meaning.view c.remove_all.new.disk).files in
    subst (IsCarried change f0) (sym (c.sync.ensures.syncs told).files)
    (carried_from change.root change change.built f0 f1 f2 (c.in_ok-fetch.ensures.fetched told) (subst (λ (ps : List Text). IsRemoved ps (length ps) f1 f2) c.deref.ensures.value (c.in_ok-remove_all.ensures.removed told))))
