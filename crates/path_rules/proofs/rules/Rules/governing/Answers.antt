use Rattle.std.proofs.Common.{◌≡◌, Option, Some, None, rules, sym, subst}
use Rattle.recipient_files.specs.Ids.{Ids}
use Rattle.path_rules.specs.Governing.{Governs, governing_below}
use Rattle.path_rules.proofs.GoverningLemmas.{computed}
use Rattle.path_rules.proofs.NearestLemmas.{handed}
use Rattle.path_rules.proofs.rules.Rules.governing.Goals as goal

pub returns-in_err-index-clause-longest : goal.returns-in_err-index-clause-longest
returns-in_err-index-clause-longest c = λ least lt is.
    let rule : ◌≡◌ {A = Option Ids} None (governing_below c.args.self.now least c.args.name.now) = search rules in
    rw (c.from_residual.ensures) (subst (λ (r : Option Ids). Governs c.args.self.now least c.args.name.now r) (sym rule) (computed c.args.self.now least c.args.name.now c.nearest.ensures.name))

pub returns-clause-longest : goal.returns-clause-longest
returns-clause-longest c = λ least lt is.
    let rule : ◌≡◌ {A = Option Ids} (Some c.index.result.now) (governing_below c.args.self.now least c.args.name.now) =
    handed c.self.inside.folders.items c.deref.result.now c.self.inside.sets.items c.deref-2.result.now c.args.self.now least c.args.name.now c.nearest.result c.in_ok-index.index c.index.result.now
    c.deref.ensures.value c.deref-2.ensures.value c.self.view_is c.in_ok-index.was (c.nearest.ensures.rule least lt is) c.index.ensures in
    subst (λ (r : Option Ids). Governs c.args.self.now least c.args.name.now r) (sym rule) (computed c.args.self.now least c.args.name.now c.nearest.ensures.name)
