use Rattle.std.proofs.Common.{Bool, refl, subst}
use Rattle.std.specs.Prelude.{OnOk}
use Rattle.std.specs.Ordering.{nat_cmp}
use Rattle.std.specs.Cmp.Lexicographic.{slice_cmp}
use Rattle.gopass_base.specs.Text.{Text}
use Rattle.store_core.specs.Applying.{IsSetCounted}
use Rattle.store_core.proofs.ForeseeLemmas.{made_rule, where_ok}
use Rattle.store_core.proofs.foresee.foresee_rule.Goals as goal

pub returns : goal.returns
returns c =
    let old = c.args.found.now in
    let new = c.set_counted.new in
    let folder = c.args.folder.now in
    let ids = c.args.ids.now in
    let row = c.resolve_folder-row.result in
    let set = subst (λ (b : Bool). OnOk c.set_counted.result (IsSetCounted (slice_cmp nat_cmp) old.seen.rules.items new.items.items old.counts.items new.counts.items row folder b)) c.is_some.ensures
    (subst (λ (t : Text). OnOk c.set_counted.result (IsSetCounted (slice_cmp nat_cmp) old.seen.rules.items new.items.items old.counts.items new.counts.items row t c.is_some.result)) c.in_ok-folder.ensures.copy c.set_counted.ensures) in
    where_ok c.set_counted.result (λ (was, set, counts). made_rule old _ folder row was refl refl refl refl c.resolve_folder-row.ensures ids c.in_ok-set_rule.ensures refl set counts) set
