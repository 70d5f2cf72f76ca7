use Rattle.std.proofs.Common.{arith, true, ◌≡◌, ◌∙◌, ap}
use Rattle.disk_model.specs.Files.{moved, Moves}
use Rattle.pending_journal.specs.Carrying.{IsEither}
use Rattle.pending_journal.proofs.CommitLemmas.{either_step, synced, stands_from, on_ok_then}
use Rattle.pending_journal.proofs.CostLemmas.{costs_one, costs_next, costs_err}
use Rattle.pending_journal.proofs.commit.seal.Goals as goal

pub returns-in_err-rename-clause-leaves : goal.returns-in_err-rename-clause-leaves
returns-in_err-rename-clause-leaves g c told only =
    let a = c.args.change.now.fresh in
    let b = c.args.change.now.journal in
    either_step (Moves a b) _ _ _ (λ m n is made. made ∙ ap (moved a b) is) only (c.rename.ensures.steps told)

pub returns-clause-leaves : goal.returns-clause-leaves
returns-clause-leaves g c told only =
    let a = c.args.change.now.fresh in
    let b = c.args.change.now.journal in
    synced (IsEither (g.D.Disk.meaning.view c.args.disk.now).files (moved a b (g.D.Disk.meaning.view c.args.disk.now).files)) _ _ _
    (either_step (Moves a b) _ _ _ (λ m n is made. made ∙ ap (moved a b) is) only (c.rename.ensures.steps told)) (c.sync.ensures.syncs told)

pub returns-clause-sealed : goal.returns-clause-sealed
returns-clause-sealed g c = on_ok_then c.sync.result c.sync.ensures.only (λ only told. stands_from _ _ _ (c.in_ok-rename.ensures.made told).files (c.sync.ensures.syncs told) (only told))

pub returns-in_err-rename-clause-costs : goal.returns-in_err-rename-clause-costs
returns-in_err-rename-clause-costs g c = costs_err c.from_residual.result c.from_residual.ensures.0 (omega arith) (costs_one {P = true ≡ true} c.rename.ensures.counted c.rename.ensures.later)

pub returns-clause-costs : goal.returns-clause-costs
returns-clause-costs g c = costs_next (costs_one c.rename.ensures.counted c.rename.ensures.later) (costs_one c.sync.ensures.counted c.sync.ensures.later)
