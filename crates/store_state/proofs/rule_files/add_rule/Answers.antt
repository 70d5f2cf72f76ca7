use Rattle.std.proofs.Common.{ap, arith}
use Rattle.std.specs.Prelude.{Some}
use Rattle.std.specs.FinMap as map
use Rattle.path_rules.specs.RuleMap.{RuleMap}
use Rattle.store_state.proofs.RuleFileLemmas.{few_more}
use Rattle.store_state.proofs.rule_files.add_rule.Goals as goal

pub returns-in_ok-set-in-Some-clause-few : goal.returns-in_ok-set-in-Some-clause-few
returns-in_ok-set-in-Some-clause-few g c = omega (arith, ap (λ (rules : RuleMap). map.len rules) c.in_ok-set-in-Some.ensures.1, few_more c.args.rules.now c.args.folder.now (Some c.in-Some.ids))
