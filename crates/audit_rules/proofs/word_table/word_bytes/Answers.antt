use Rattle.std.proofs.Common.{◌-◌, arith, rules, ◌∙◌}
use Rattle.audit_rules.proofs.WordLemmas.{shorter, kept}
use Rattle.audit_rules.proofs.word_table.word_bytes.Goals as goal
use Rattle.audit_rules.proofs.word_table.word_bytes.Goals.{then-loop-end-test+else-bytes-end-eq0, else-loop-end-test}

pub loop-end-preserved : goal.loop-end-preserved
loop-end-preserved c = record {
  bound = omega (arith, c.loop-end.invariant.bound);
  rest = shorter c.loop-end.end (c.loop-end.end - 1) c.args.bytes.now (omega (arith, c.loop-end-test.true)) (omega (arith, c.loop-end.invariant.bound, c.loop-end-test.true)) (search rules) ∙ c.loop-end.invariant.rest;
}

pub returns : goal.returns
returns c = elim c.loop-end-test.branch [
  | then-loop-end-test+else-bytes-end-eq0 w ↦ kept c.loop-end.end (c.loop-end.end - 1) c.args.bytes.now (omega (arith, w.loop-end-test.true)) (omega (arith, c.loop-end.invariant.bound, w.loop-end-test.true)) (search rules) ∙ c.loop-end.invariant.rest
  | else-loop-end-test w ↦ search rules
]
