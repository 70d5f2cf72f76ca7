use Rattle.std.proofs.Common.{◌<◌, ℕ, List, length, ap, sym, ◌∙◌, subst, refl, arith}
use Rattle.std.specs.Prelude.{is_ok}
use Rattle.std.specs.List.{insert}
use Rattle.mount_table.specs.Mounts.{row_at, root_of, IsBelow, LacksAlias, IsApart, new_row}
use Rattle.mount_table.specs.declared.mounts.Row.{Row}
use Rattle.mount_table.proofs.MountLemmas.{lacks_by, comes}
use Rattle.std.proofs.lemmas.Result.{err_from_is_err_and}
use Rattle.mount_table.proofs.mounts.Mounts.add.Goals as goal

pub returns-then-len-ge-MOST_MOUNTS : goal.returns-then-len-ge-MOST_MOUNTS
returns-then-len-ge-MOST_MOUNTS c =
    let other = lacks_by c.row_of.result c.deref.result.now c.args.alias.now c.row_of.ensures (sym c.is_some.ensures ∙ c.if-is_some.false) in (
      subst (λ (rows : List Row). LacksAlias rows c.args.alias.now) (c.deref.ensures.value ∙ c.self.view_is) other,
      subst (λ (rows : List Row). IsApart rows c.args.dir.now) (c.deref-2.ensures.value ∙ c.self.view_is) c.in_default.ensures,
      omega (arith, ap length c.self.view_is),
      refl,
    )

pub invariant_of-self-2 : goal.invariant_of-self-2
invariant_of-self-2 c =
    let rows = c.self.inside.rows.items in
    let other = lacks_by c.row_of.result c.deref.result.now c.args.alias.now c.row_of.ensures (sym c.is_some.ensures ∙ c.if-is_some.false) in
    let lent = c.deref-3.ensures.value in
    comes (root_of rows) rows c.insert.new.self.items c.args.alias.now c.args.dir.now c.in_ok-copy.field-0 c.in_ok-copy-2.field-0 c.rows_below-at.result (is_ok c.insert.result) c.self.invariant
    c.in_ok-copy.ensures.copy c.in_ok-copy-2.ensures.copy c.insert.ensures.items c.in_ok-copy.ensures.good c.in_ok-copy-2.ensures.good (omega arith)
    (subst (λ (r : List Row). LacksAlias r c.args.alias.now) c.deref.ensures.value other)
    (subst (λ (r : List Row). IsApart r c.args.dir.now) c.deref-2.ensures.value c.in_default.ensures)
    (omega (arith, c.rows_below-at.ensures.most, ap length lent))
    (subst (λ (r : List Row). (k : ℕ) → k < c.rows_below-at.result → ¬ IsBelow c.args.alias.now (row_at r k).alias) lent c.rows_below-at.ensures.before)
    (subst (λ (r : List Row). c.rows_below-at.result < length r → IsBelow c.args.alias.now (row_at r c.rows_below-at.result).alias) lent c.rows_below-at.ensures.behind)

pub returns : goal.returns
returns c =
    let other = lacks_by c.row_of.result c.deref.result.now c.args.alias.now c.row_of.ensures (sym c.is_some.ensures ∙ c.if-is_some.false) in (
      subst (λ (rows : List Row). LacksAlias rows c.args.alias.now) (c.deref.ensures.value ∙ c.self.view_is) other,
      subst (λ (rows : List Row). IsApart rows c.args.dir.now) (c.deref-2.ensures.value ∙ c.self.view_is) c.in_default.ensures,
      omega (arith, ap length c.self.view_is),
      (
        c.rows_below-at.result,
        omega (arith, c.rows_below-at.ensures.most, ap length c.deref-3.ensures.value, ap length c.self.view_is),
        c.in_ok-insert.ensures.items ∙ (λ i. insert (c.self.view_is i) c.rows_below-at.result (new_row (c.in_ok-copy.ensures.copy i) (c.in_ok-copy-2.ensures.copy i))),
      ),
    )

pub returns-in_err-copy : goal.returns-in_err-copy
returns-in_err-copy c =
    let p = err_from_is_err_and c.from_residual.result c.from_residual.ensures.1 in
    let other = lacks_by c.row_of.result c.deref.result.now c.args.alias.now c.row_of.ensures (sym c.is_some.ensures ∙ c.if-is_some.false) in
    rw (p.1, p.2) (
      subst (λ (rows : List Row). LacksAlias rows c.args.alias.now) (c.deref.ensures.value ∙ c.self.view_is) other,
      subst (λ (rows : List Row). IsApart rows c.args.dir.now) (c.deref-2.ensures.value ∙ c.self.view_is) c.in_default.ensures,
      omega (arith, ap length c.self.view_is),
      refl,
    )

pub returns-in_err-copy-2 : goal.returns-in_err-copy-2
returns-in_err-copy-2 c =
    let p = err_from_is_err_and c.from_residual-in_err-copy-2.result c.from_residual-in_err-copy-2.ensures.1 in
    let other = lacks_by c.row_of.result c.deref.result.now c.args.alias.now c.row_of.ensures (sym c.is_some.ensures ∙ c.if-is_some.false) in
    rw (p.1, p.2) (
      subst (λ (rows : List Row). LacksAlias rows c.args.alias.now) (c.deref.ensures.value ∙ c.self.view_is) other,
      subst (λ (rows : List Row). IsApart rows c.args.dir.now) (c.deref-2.ensures.value ∙ c.self.view_is) c.in_default.ensures,
      omega (arith, ap length c.self.view_is),
      refl,
    )

pub returns-in_err-insert : goal.returns-in_err-insert
returns-in_err-insert c =
    let p = err_from_is_err_and c.from_residual-in_err-insert.result c.from_residual-in_err-insert.ensures.1 in
    let other = lacks_by c.row_of.result c.deref.result.now c.args.alias.now c.row_of.ensures (sym c.is_some.ensures ∙ c.if-is_some.false) in
    rw (p.1, p.2) (
      subst (λ (rows : List Row). LacksAlias rows c.args.alias.now) (c.deref.ensures.value ∙ c.self.view_is) other,
      subst (λ (rows : List Row). IsApart rows c.args.dir.now) (c.deref-2.ensures.value ∙ c.self.view_is) c.in_default.ensures,
      omega (arith, ap length c.self.view_is),
      c.in_err-insert.ensures.items ∙ c.self.view_is,
    )
