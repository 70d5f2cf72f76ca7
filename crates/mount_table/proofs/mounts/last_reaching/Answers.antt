use Rattle.std.proofs.Common.{◌<◌, ◌≤◌, length, sym, ◌∙◌, arith}
use Rattle.std.proofs.lemmas.Bool.{true≢false}
use Rattle.mount_table.specs.Prefixes.{IsPrefix, folder_parts}
use Rattle.mount_table.specs.Mounts.{root_of}
use Rattle.mount_table.specs.declared.mounts.Row.{Row}
use Rattle.mount_table.proofs.TableLemmas.{root_reaches_all}
use Rattle.mount_table.proofs.MountLemmas.{last_starts, last_here, last_stays, mount_of_folder}
use Rattle.mount_table.proofs.mounts.last_reaching.Goals.{then-reaches, else-reaches}
use Rattle.mount_table.proofs.mounts.last_reaching.Goals as goal

pub loop-i-init : goal.loop-i-init
loop-i-init c = last_starts (λ (row : Row). IsPrefix (folder_parts row.alias) (folder_parts c.args.folder.now)) c.args.rows.now c.requires.some (root_reaches_all (root_of c.args.rows.now) c.args.folder.now c.args.rows.now c.requires)

pub loop-i-preserved : goal.loop-i-preserved
loop-i-preserved c =
    let inside : c.loop-i.i < length c.args.rows.now = omega arith in
    elim c.if-reaches.branch [
      | then-reaches w ↦ last_here (λ (row : Row). IsPrefix (folder_parts row.alias) (folder_parts c.args.folder.now)) c.args.rows.now c.loop-i.reached c.if-reaches.reached c.loop-i.i c.index-rows-i.result c.loop-i.invariant inside (c.reaches.ensures.0 w.if-reaches.true) w.reached-is
      | else-reaches w ↦ last_stays (λ (row : Row). IsPrefix (folder_parts row.alias) (folder_parts c.args.folder.now)) c.args.rows.now c.loop-i.reached c.if-reaches.reached c.loop-i.i c.index-rows-i.result c.loop-i.invariant inside (λ p. true≢false (sym (c.reaches.ensures.1 p) ∙ w.if-reaches.false)) w.reached-is
    ]

pub returns : goal.returns
returns c =
    let all : length c.args.rows.now ≤ c.loop-i.i = omega arith in
    mount_of_folder (root_of c.args.rows.now) c.args.folder.now c.args.rows.now c.loop-i.reached c.loop-i.i c.requires c.loop-i.invariant all
