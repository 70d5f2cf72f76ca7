use Rattle.std.proofs.Common.{◌≡◌, ◌+◌, length, sym, ◌∙◌, subst}
use Rattle.std.proofs.lemmas.Bool.{true≢false}
use Rattle.mount_table.specs.MountsText.{CanFollow}
use Rattle.mount_table.specs.declared.mounts.Row.{Row}
use Rattle.mount_table.proofs.LineLemmas.{same_row}
use Rattle.mount_table.proofs.mounts_text.next_row.Goals as goal

pub returns-else-can_follow-clause-bad : goal.returns-else-can_follow-clause-bad
returns-else-can_follow-clause-bad c = λ n e.
    let number : length c.args.rows.now + 1 ≡ n = cc in (
      sym number,
      λ row good can is.
          let read = c.in-Ok.ensures.row in
          let same = same_row row c.in-Ok.row good read.0 (sym is ∙ read.1) in
          true≢false (sym (c.can_follow.ensures.1 (subst (λ (r : Row). CanFollow c.args.root.now c.args.rows.now r) same can)) ∙ c.if-can_follow.false),
    )
