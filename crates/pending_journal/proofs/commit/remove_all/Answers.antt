use Rattle.std.proofs.Common.{rules, arith, ◌∙◌}
use Rattle.std.specs.Prelude.{⊤}
use Rattle.pending_journal.proofs.ChangeLemmas.{removed_more}
use Rattle.pending_journal.proofs.CostLemmas.{costs_one, costs_then, costs_is, costs_err}
use Rattle.pending_journal.proofs.TurnLemmas.{remove_runs}
use Rattle.pending_journal.proofs.commit.remove_all.Goals as goal

pub returns-in_err-remove-clause-runs : goal.returns-in_err-remove-clause-runs
returns-in_err-remove-clause-runs g c told = remove_runs c.args.paths.now c.loop-path.path-index c.path-item.result c.path-item.is (omega arith) _ _ _ (c.loop-path.invariant.runs told) (c.remove.ensures.steps told)

pub loop-path-preserved : goal.loop-path-preserved
loop-path-preserved g c = record {
  runs = λ told. remove_runs c.args.paths.now c.loop-path.path-index c.path-item.result c.path-item.is (omega arith) _ _ _ (c.loop-path.invariant.runs told) (c.remove.ensures.steps told);
  removed = λ told. removed_more c.args.paths.now c.loop-path.path-index c.path-item.result c.path-item.is (omega arith) _ _ _ (c.loop-path.invariant.removed told) (c.in_ok-remove.ensures.made told).files;
  faults = search rules;
  held = c.remove.ensures.held ∙ c.loop-path.invariant.held;
  asked = c.remove.ensures.asked ∙ c.loop-path.invariant.asked;
  costs = costs_is (omega arith) (λ t. t) (costs_then (λ t. t) (λ t. t) c.loop-path.invariant.costs (costs_one c.remove.ensures.counted c.remove.ensures.later));
}

pub returns-in_err-remove-clause-costs : goal.returns-in_err-remove-clause-costs
returns-in_err-remove-clause-costs g c = costs_err c.from_residual.result c.from_residual.ensures.0 (omega arith) (costs_then (λ t. t) (λ t. t) c.loop-path.invariant.costs (costs_one {P = ⊤} c.remove.ensures.counted c.remove.ensures.later))

pub returns-clause-costs : goal.returns-clause-costs
returns-clause-costs g c = costs_is (omega arith) (λ t. tt) c.loop-path.invariant.costs
