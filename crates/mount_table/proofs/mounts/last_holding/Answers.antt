use Rattle.std.proofs.Common.{◌<◌, ◌≤◌, length, sym, ◌∙◌, arith}
use Rattle.std.proofs.lemmas.Bool.{true≢false}
use Rattle.mount_table.specs.Prefixes.{Holds}
use Rattle.mount_table.specs.Mounts.{root_of}
use Rattle.mount_table.specs.declared.mounts.Row.{Row}
use Rattle.mount_table.proofs.TableLemmas.{root_holds}
use Rattle.mount_table.proofs.MountLemmas.{last_starts, last_here, last_stays, mount_of}
use Rattle.mount_table.proofs.mounts.last_holding.Goals.{then-holds, else-holds}
use Rattle.mount_table.proofs.mounts.last_holding.Goals as goal

pub loop-i-init : goal.loop-i-init
loop-i-init c = last_starts (λ (row : Row). Holds row.alias c.args.name.now) c.args.rows.now c.requires.some (root_holds (root_of c.args.rows.now) c.args.name.now c.args.rows.now c.requires)

pub loop-i-preserved : goal.loop-i-preserved
loop-i-preserved c =
    let inside : c.loop-i.i < length c.args.rows.now = omega arith in
    elim c.if-holds.branch [
      | then-holds w ↦ last_here (λ (row : Row). Holds row.alias c.args.name.now) c.args.rows.now c.loop-i.last c.if-holds.last c.loop-i.i c.index-rows-i.result c.loop-i.invariant inside (c.holds.ensures.0 w.if-holds.true) w.last-is
      | else-holds w ↦ last_stays (λ (row : Row). Holds row.alias c.args.name.now) c.args.rows.now c.loop-i.last c.if-holds.last c.loop-i.i c.index-rows-i.result c.loop-i.invariant inside (λ p. true≢false (sym (c.holds.ensures.1 p) ∙ w.if-holds.false)) w.last-is
    ]

pub returns : goal.returns
returns c =
    let all : length c.args.rows.now ≤ c.loop-i.i = omega arith in
    mount_of (root_of c.args.rows.now) c.args.name.now c.args.rows.now c.loop-i.last c.loop-i.i c.requires c.loop-i.invariant all
