use Rattle.std.proofs.Common.{inl, ◌≡◌, ◌∙◌, length, refl, arith}
use Rattle.std.proofs.lemmas.Result.{err_from_is_err_and}
use Rattle.path_rules.specs.declared.entries.Spot.TheVariants.{At, Before}
use Rattle.path_rules.proofs.MapLemmas.{turned_spot, rise_of, is_full, has_room, has_rule}
use Rattle.path_rules.proofs.rules.Rules.set.Goals as goal

pub spot_of-requires : goal.spot_of-requires
spot_of-requires c = rise_of c.self.inside.folders.items c.deref.result.now c.self.inside.sets.items c.deref.ensures.value c.self.invariant

pub returns-in_ok-put-in-At : goal.returns-in_ok-put-in-At
returns-in_ok-put-in-At c =
    let spot = turned_spot c.self.inside.folders.items c.deref.result.now c.args.folder.now c.as_bytes.result.now c.spot_of.result (At c.in-At.field-0) c.deref.ensures.value (c.as_bytes.ensures.value ∙ c.text.ensures.text) c.in-At.is c.spot_of.ensures in
    (inl (has_rule c.self.inside.folders.items c.self.inside.sets.items c.args.folder.now c.args.self.now c.in-At.field-0 c.self.invariant c.self.view_is spot), c.in_ok-put-in-At.ensures.put)

pub returns-in_err-put-in-At : goal.returns-in_err-put-in-At
returns-in_err-put-in-At c =
    let spot = turned_spot c.self.inside.folders.items c.deref.result.now c.args.folder.now c.as_bytes.result.now c.spot_of.result (At c.in-At.field-0) c.deref.ensures.value (c.as_bytes.ensures.value ∙ c.text.ensures.text) c.in-At.is c.spot_of.ensures in
    let p = err_from_is_err_and c.from_residual.result c.from_residual.ensures.1 in
    rw (p.1, p.2) (inl (has_rule c.self.inside.folders.items c.self.inside.sets.items c.args.folder.now c.args.self.now c.in-At.field-0 c.self.invariant c.self.view_is spot), c.in_err-put-in-At.ensures.same)

pub returns-then-len-ge-MOST_RULES : goal.returns-then-len-ge-MOST_RULES
returns-then-len-ge-MOST_RULES c =
    let count : c.len.result ≡ length c.self.inside.folders.items = omega arith in
    let spot = turned_spot c.self.inside.folders.items c.deref.result.now c.args.folder.now c.as_bytes.result.now c.spot_of.result (Before c.in-Before.field-0) c.deref.ensures.value (c.as_bytes.ensures.value ∙ c.text.ensures.text) c.in-Before.is c.spot_of.ensures in
    let full = is_full c.self.inside.folders.items c.self.inside.sets.items c.args.folder.now c.args.self.now c.in-Before.field-0 c.len.result c.self.invariant c.self.view_is spot count c.if-len-ge-MOST_RULES.true in
    (full.0, full.1, refl)

pub returns-in_ok-put-in-Before : goal.returns-in_ok-put-in-Before
returns-in_ok-put-in-Before c =
    let count : c.len.result ≡ length c.self.inside.folders.items = omega arith in
    (has_room c.self.inside.folders.items c.self.inside.sets.items c.args.folder.now c.args.self.now c.len.result c.self.invariant c.self.view_is count (omega (arith, c.if-len-ge-MOST_RULES.false)), c.in_ok-put-in-Before.ensures.put)

pub returns-in_err-put-in-Before : goal.returns-in_err-put-in-Before
returns-in_err-put-in-Before c =
    let count : c.len.result ≡ length c.self.inside.folders.items = omega arith in
    let p = err_from_is_err_and c.from_residual-in_err-put-in-Before.result c.from_residual-in_err-put-in-Before.ensures.1 in
    rw (p.1, p.2) (has_room c.self.inside.folders.items c.self.inside.sets.items c.args.folder.now c.args.self.now c.len.result c.self.invariant c.self.view_is count (omega (arith, c.if-len-ge-MOST_RULES.false)), c.in_err-put-in-Before.ensures.same)
