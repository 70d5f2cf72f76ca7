use Rattle.std.proofs.Common.{arith, true, ◌≡◌, None, ◌∙◌, ap}
use Rattle.disk_model.specs.Files.{Files, put, Drops}
use Rattle.pending_journal.specs.Carrying.{IsEither}
use Rattle.pending_journal.proofs.CommitLemmas.{either_step, synced, stands_from, on_ok_then}
use Rattle.pending_journal.proofs.CostLemmas.{costs_one, costs_next, costs_err}
use Rattle.pending_journal.proofs.commit.finish.Goals as goal

pub returns-in_err-remove-clause-leaves : goal.returns-in_err-remove-clause-leaves
returns-in_err-remove-clause-leaves g c told only =
    let p = c.args.journal.now in
    either_step (Drops p) _ _ _ (λ m n is made. made ∙ ap (λ (f : Files). put f p None) is) only (c.remove.ensures.steps told)

pub returns-clause-leaves : goal.returns-clause-leaves
returns-clause-leaves g c told only =
    let p = c.args.journal.now in
    synced (IsEither (g.D.Disk.meaning.view c.args.disk.now).files (put (g.D.Disk.meaning.view c.args.disk.now).files p None)) _ _ _
    (either_step (Drops p) _ _ _ (λ m n is made. made ∙ ap (λ (f : Files). put f p None) is) only (c.remove.ensures.steps told)) (c.sync.ensures.syncs told)

pub returns-clause-ended : goal.returns-clause-ended
returns-clause-ended g c = on_ok_then c.sync.result c.sync.ensures.only (λ only told. stands_from _ _ _ (c.in_ok-remove.ensures.made told).files (c.sync.ensures.syncs told) (only told))

pub returns-in_err-remove-clause-costs : goal.returns-in_err-remove-clause-costs
returns-in_err-remove-clause-costs g c = costs_err c.from_residual.result c.from_residual.ensures.0 (omega arith) (costs_one {P = true ≡ true} c.remove.ensures.counted c.remove.ensures.later)

pub returns-clause-costs : goal.returns-clause-costs
returns-clause-costs g c = costs_next (costs_one c.remove.ensures.counted c.remove.ensures.later) (costs_one c.sync.ensures.counted c.sync.ensures.later)
