use Rattle.std.proofs.Common.{rules, ◌≡◌, ◌<◌, List, length, get_or, ◌∙◌, ap, arith}
use Rattle.std.specs.Prelude.{⊤}
use Rattle.pending_journal.specs.declared.put.Put.{Put}
use Rattle.pending_journal.proofs.CostLemmas.{costs_one, costs_then, costs_is, costs_err}
use Rattle.pending_journal.proofs.TurnLemmas.{fetch_runs, fetch_files}
use Rattle.pending_journal.proofs.commit.fetch.Goals as goal

pub returns-in_err-rename-clause-runs : goal.returns-in_err-rename-clause-runs
returns-in_err-rename-clause-runs g c told =
    let items = c.deref-put-items.ensures.value in
    let p = c.put-item.result in
    let i = c.loop-put.put-index in
    let is : p ≡ get_or c.args.change.now.puts.items i p = c.put-item.is ∙ ap (λ (xs : List Put). get_or xs i p) items in
    let lt : i < length c.args.change.now.puts.items = omega (arith, ap length items) in
    fetch_runs c.args.change.now.root c.args.change.now c.args.change.now.built i p is lt _ _ _ (c.loop-put.invariant.runs told) (c.rename.ensures.steps told)

pub loop-put-preserved : goal.loop-put-preserved
loop-put-preserved g c =
    let items = c.deref-put-items.ensures.value in
    let p = c.put-item.result in
    let i = c.loop-put.put-index in
    let is : p ≡ get_or c.args.change.now.puts.items i p = c.put-item.is ∙ ap (λ (xs : List Put). get_or xs i p) items in
    let lt : i < length c.args.change.now.puts.items = omega (arith, ap length items) in
    record {
      runs = λ told. fetch_runs c.args.change.now.root c.args.change.now c.args.change.now.built i p is lt _ _ _ (c.loop-put.invariant.runs told) (c.rename.ensures.steps told);
      fetched = λ told. fetch_files c.args.change.now.root c.args.change.now c.args.change.now.built i p is lt _ _ _ (c.loop-put.invariant.fetched told) (c.in_ok-rename.ensures.made told).files;
      faults = search rules;
      held = c.rename.ensures.held ∙ c.loop-put.invariant.held;
      asked = c.rename.ensures.asked ∙ c.loop-put.invariant.asked;
      costs = costs_is (omega arith) (λ t. t) (costs_then (λ t. t) (λ t. t) c.loop-put.invariant.costs (costs_one c.rename.ensures.counted c.rename.ensures.later));
    }

pub returns-in_err-rename-clause-costs : goal.returns-in_err-rename-clause-costs
returns-in_err-rename-clause-costs g c = costs_err c.from_residual.result c.from_residual.ensures.0 (omega (arith, ap length c.deref-put-items.ensures.value)) (costs_then (λ t. t) (λ t. t) c.loop-put.invariant.costs (costs_one {P = ⊤} c.rename.ensures.counted c.rename.ensures.later))

pub returns-clause-costs : goal.returns-clause-costs
returns-clause-costs g c = costs_is (omega (arith, ap length c.deref-put-items.ensures.value)) (λ t. tt) c.loop-put.invariant.costs
