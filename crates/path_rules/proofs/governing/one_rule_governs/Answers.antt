use Rattle.path_rules.proofs.GoverningLemmas.{computed, one}
use Rattle.path_rules.proofs.governing.one_rule_governs.Goals as goal

pub returns-clause-computed : goal.returns-clause-computed
returns-clause-computed c = λ rules least name good. computed rules least name good

pub returns-clause-one : goal.returns-clause-one
returns-clause-one c = λ rules least name a b good h k. one rules least name a b h k
