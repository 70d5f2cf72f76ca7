use Rattle.std.proofs.Common.{sym, ap, ◌∙◌}
use Rattle.std.specs.FinMap as map
use Rattle.path_rules.specs.RuleMap.{RuleMap}
use Rattle.path_rules.proofs.MapLemmas.{keys_are}
use Rattle.path_rules.proofs.rules.Rules.folders.Goals as goal

pub returns : goal.returns
returns c = c.deref.ensures.value ∙ (sym (keys_are c.self.inside.folders.items c.self.inside.sets.items c.self.invariant) ∙ ap (λ (r : RuleMap). map.keys r) c.self.view_is)
