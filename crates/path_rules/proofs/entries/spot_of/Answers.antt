use Rattle.std.proofs.Common.{rules}
use Rattle.std.proofs.lemmas.Fn.{always_returns_same}
use Rattle.gopass_base.specs.Text.{Text}
use Rattle.path_rules.proofs.EntryLemmas.{order}
use Rattle.path_rules.proofs.MapLemmas.{spot_at, spot_before}
use Rattle.path_rules.proofs.entries.spot_of.Goals as goal

pub returns-in-Ok : goal.returns-in-Ok
returns-in-Ok c =
    let by_order = c.binary_search_by.ensures.position (λ (f : Text). order f c.args.text.now) (always_returns_same _ _ _ (λ a r h called. search rules)) in
    spot_at c.args.folders.now c.args.text.now c.binary_search_by.result c.binary_search_by.ensures.bound by_order c.in-Ok.index c.in-Ok.is

pub returns-in-Err : goal.returns-in-Err
returns-in-Err c =
    let by_order = c.binary_search_by.ensures.position (λ (f : Text). order f c.args.text.now) (always_returns_same _ _ _ (λ a r h called. search rules)) in
    spot_before c.args.folders.now c.args.text.now c.binary_search_by.result c.requires c.binary_search_by.ensures.bound by_order c.in-Err.index c.in-Err.is
