use Rattle.std.proofs.Common.{◌∙◌}
use Rattle.path_rules.specs.RuleMap.{map_of}
use Rattle.path_rules.proofs.MapLemmas.{none_is}
use Rattle.path_rules.proofs.rules.Rules.new.Goals as goal

pub returns : goal.returns
returns c = (λ i. map_of (c.new.ensures.items i) (c.new-2.ensures.items i)) ∙ none_is
