use Rattle.std.proofs.Common.{◌∙◌, not, ap}
use Rattle.path_rules.specs.Affected.{same_rule}
use Rattle.path_rules.proofs.AffectedLemmas.{same_ids}
use Rattle.path_rules.proofs.change.is_affected.Goals as goal

pub returns-in-None-None : goal.returns-in-None-None
returns-in-None-None c = λ i. not (same_rule (c.in-None-None.ensures i) (c.in-None-None.ensures' i))

pub returns-in-Some-Some : goal.returns-in-Some-Some
returns-in-Some-Some c =
    ap not (same_ids c.same.result c.in-Some-Some.old.now c.in-Some-Some.new.now c.same.ensures) ∙ (λ i. not (same_rule (c.in-Some-Some.ensures i) (c.in-Some-Some.ensures' i)))

pub returns-in_default : goal.returns-in_default
returns-in_default c = λ i. not (same_rule (c.in_default.ensures i) (c.in_default.ensures' i))

pub returns-in_default-2 : goal.returns-in_default-2
returns-in_default-2 c = λ i. not (same_rule (c.in_default.ensures i) (c.in_default.ensures' i))
