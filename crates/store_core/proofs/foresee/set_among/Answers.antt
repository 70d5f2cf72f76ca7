use Rattle.std.proofs.Common.{◌≤◌, Bool, false, List, length, Err, refl, sym, subst}
use Rattle.std.specs.List.Sorted.{IsBinarySearchResult}
use Rattle.store_core.specs.Applying.{IsSetAmong}
use Rattle.store_core.proofs.foresee.set_among.Goals as goal

pub returns-in_ok-insert-in-Err : goal.returns-in_ok-insert-in-Err
returns-in_ok-insert-in-Err g c =
    let items = c.args.items.now.items in
    subst (λ (b : Bool). IsSetAmong g.T.Ord.cmp items c.insert.new.self.items c.args.item b false) (sym c.if-is.true) (
      c.in-Err.at,
      subst (λ (l : List g.row.T.Denot). c.in-Err.at ≤ length l) c.deref.ensures.value c.in-Err.ensures.bound,
      subst (λ (l : List g.row.T.Denot). IsBinarySearchResult (λ y. g.T.Ord.cmp y c.args.item) l (Err c.in-Err.at)) c.deref.ensures.value c.in-Err.ensures.position,
      c.in_ok-insert-in-Err.ensures.items,
    )

pub returns-else-is : goal.returns-else-is
returns-else-is g c =
    let items = c.args.items.now.items in
    subst (λ (b : Bool). IsSetAmong g.T.Ord.cmp items items c.args.item b false) (sym c.if-is.false) (
      c.in-Err.at,
      subst (λ (l : List g.row.T.Denot). c.in-Err.at ≤ length l) c.deref.ensures.value c.in-Err.ensures.bound,
      subst (λ (l : List g.row.T.Denot). IsBinarySearchResult (λ y. g.T.Ord.cmp y c.args.item) l (Err c.in-Err.at)) c.deref.ensures.value c.in-Err.ensures.position,
      refl,
    )
