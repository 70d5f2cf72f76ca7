use Rattle.std.proofs.Common.{[], Some, sym, ap, ◌∙◌}
use Rattle.std.proofs.lemmas.List.{get_or_default}
use Rattle.path_rules.specs.RuleMap.{RuleMap, rule_at}
use Rattle.path_rules.specs.declared.entries.Spot.TheVariants.{At, Before}
use Rattle.path_rules.proofs.MapLemmas.{inside_sets, turned_spot, rise_of, found_at, found_nowhere}
use Rattle.path_rules.proofs.rules.Rules.at.Goals as goal

pub spot_of-requires : goal.spot_of-requires
spot_of-requires c = rise_of c.self.inside.folders.items c.deref.result.now c.self.inside.sets.items c.deref.ensures.value c.self.invariant

pub returns-in-At : goal.returns-in-At
returns-in-At c =
    let spot = turned_spot c.self.inside.folders.items c.deref.result.now c.args.folder.now c.as_bytes.result.now c.spot_of.result (At c.in-At.index) c.deref.ensures.value (c.as_bytes.ensures.value ∙ c.text.ensures.text) c.in-At.is c.spot_of.ensures in
    (λ i. Some (c.index.ensures i))
    ∙ ((λ i. Some (get_or_default c.self.inside.sets.items c.in-At.index c.index.result.now [] (inside_sets c.self.inside.folders.items c.self.inside.sets.items c.args.folder.now c.in-At.index c.self.invariant spot) i))
    ∙ (sym (found_at c.self.inside.folders.items c.self.inside.sets.items c.args.folder.now c.in-At.index c.self.invariant spot) ∙ ap (λ (r : RuleMap). rule_at r c.args.folder.now) c.self.view_is))

pub returns-in-Before : goal.returns-in-Before
returns-in-Before c =
    let spot = turned_spot c.self.inside.folders.items c.deref.result.now c.args.folder.now c.as_bytes.result.now c.spot_of.result (Before c.in-Before.field-0) c.deref.ensures.value (c.as_bytes.ensures.value ∙ c.text.ensures.text) c.in-Before.is c.spot_of.ensures in
    sym (found_nowhere c.self.inside.folders.items c.self.inside.sets.items c.args.folder.now c.in-Before.field-0 c.self.invariant spot) ∙ ap (λ (r : RuleMap). rule_at r c.args.folder.now) c.self.view_is
