use Rattle.std.proofs.Common.{◌≡◌, ◌∙◌, ap}
use Rattle.std.specs.FinMap as map
use Rattle.std.proofs.lemmas.Result.{err_from_is_err_and}
use Rattle.path_rules.specs.RuleMap.{RuleMap, map_of}
use Rattle.path_rules.specs.declared.entries.Spot.TheVariants.{At, Before}
use Rattle.path_rules.proofs.MapLemmas.{turned_spot, rise_of, set_there, put_lists}
use Rattle.path_rules.proofs.rules.Rules.put.Goals as goal

pub spot_of-requires : goal.spot_of-requires
spot_of-requires c = rise_of c.self.inside.folders.items c.deref.result.now c.self.inside.sets.items c.deref.ensures.value c.self.invariant

pub invariant_of-self : goal.invariant_of-self
invariant_of-self c =
    let spot = turned_spot c.self.inside.folders.items c.deref.result.now c.args.folder.now c.as_bytes.result.now c.spot_of.result (At c.in-At.index) c.deref.ensures.value (c.as_bytes.ensures.value ∙ c.text.ensures.text) c.in-At.is c.spot_of.ensures in
    (set_there c.self.inside.folders.items c.self.inside.sets.items c.args.folder.now c.args.ids c.in-At.index c.self.invariant spot).0

pub returns-in-At-clause-put : goal.returns-in-At-clause-put
returns-in-At-clause-put c =
    let spot = turned_spot c.self.inside.folders.items c.deref.result.now c.args.folder.now c.as_bytes.result.now c.spot_of.result (At c.in-At.index) c.deref.ensures.value (c.as_bytes.ensures.value ∙ c.text.ensures.text) c.in-At.is c.spot_of.ensures in
    (set_there c.self.inside.folders.items c.self.inside.sets.items c.args.folder.now c.args.ids c.in-At.index c.self.invariant spot).1 ∙ ap (λ (r : RuleMap). map.insert r c.args.folder.now c.args.ids) c.self.view_is

pub returns-in_err-folder-in-Before-clause-same : goal.returns-in_err-folder-in-Before-clause-same
returns-in_err-folder-in-Before-clause-same c =
    let p = err_from_is_err_and c.from_residual.result c.from_residual.ensures.1 in
    rw (p.1) ((λ i. map_of (c.make_room.ensures.folders i) (c.make_room.ensures.sets i)) ∙ c.self.view_is)

pub invariant_of-self-in-Before : goal.invariant_of-self-in-Before
invariant_of-self-in-Before c =
    let spot = turned_spot c.self.inside.folders.items c.deref.result.now c.args.folder.now c.as_bytes.result.now c.spot_of.result (Before c.in-Before.index) c.deref.ensures.value (c.as_bytes.ensures.value ∙ c.text.ensures.text) c.in-Before.is c.spot_of.ensures in
    (put_lists c.self.inside.folders.items c.make_room.new.folders.items c.put_in.new.folders.items c.self.inside.sets.items c.make_room.new.sets.items c.put_in.new.sets.items
    c.args.folder.now c.in_ok-folder-in-Before.folder c.args.ids c.in-Before.index c.args.self.now c.self.invariant c.self.view_is spot
    c.make_room.ensures.folders c.make_room.ensures.sets c.in_ok-folder-in-Before.ensures.copy c.put_in.ensures.folders c.put_in.ensures.sets).0

pub returns-in_ok-folder-in-Before-clause-put : goal.returns-in_ok-folder-in-Before-clause-put
returns-in_ok-folder-in-Before-clause-put c =
    let spot = turned_spot c.self.inside.folders.items c.deref.result.now c.args.folder.now c.as_bytes.result.now c.spot_of.result (Before c.in-Before.index) c.deref.ensures.value (c.as_bytes.ensures.value ∙ c.text.ensures.text) c.in-Before.is c.spot_of.ensures in
    (put_lists c.self.inside.folders.items c.make_room.new.folders.items c.put_in.new.folders.items c.self.inside.sets.items c.make_room.new.sets.items c.put_in.new.sets.items
    c.args.folder.now c.in_ok-folder-in-Before.folder c.args.ids c.in-Before.index c.args.self.now c.self.invariant c.self.view_is spot
    c.make_room.ensures.folders c.make_room.ensures.sets c.in_ok-folder-in-Before.ensures.copy c.put_in.ensures.folders c.put_in.ensures.sets).1
