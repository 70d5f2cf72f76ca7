use Rattle.std.proofs.Common.{Bool, refl, sym, ◌∙◌, subst}
use Rattle.std.specs.Prelude.{OnOk}
use Rattle.std.specs.Ordering.{nat_cmp}
use Rattle.std.specs.Cmp.Lexicographic.{slice_cmp}
use Rattle.gopass_base.specs.Text.{Text}
use Rattle.store_core.specs.Applying.{IsSetCounted}
use Rattle.store_core.specs.Entries.{text_in}
use Rattle.store_core.proofs.ForeseeLemmas.{made_secret, some_text, where_ok}
use Rattle.store_core.proofs.foresee.foresee_secret.Goals as goal

pub returns : goal.returns
returns c =
    let old = c.args.found.now in
    let new = c.set_counted.new in
    let name = c.args.name.now in
    let file = text_in c.args.bytes.now in
    let row = c.resolve-row.result.row in
    let set = subst (λ (b : Bool). OnOk c.set_counted.result (IsSetCounted (slice_cmp nat_cmp) old.seen.names.items new.items.items old.counts.items new.counts.items row name b)) (c.is_some.ensures ∙ sym (some_text c.args.bytes.now))
    (subst (λ (t : Text). OnOk c.set_counted.result (IsSetCounted (slice_cmp nat_cmp) old.seen.names.items new.items.items old.counts.items new.counts.items row t c.is_some.result)) c.in_ok-name.ensures c.set_counted.ensures) in
    where_ok c.set_counted.result (λ (was, set, counts). made_secret old _ name file row was refl refl refl refl refl refl c.resolve-row.ensures.mount set counts) set
