use Rattle.std.proofs.Common.{subst, sym, arith}
use Rattle.std.proofs.Math.Dec.{ltb}
use Rattle.disk_model.specs.Acts.{act_of}
use Rattle.disk_model.specs.Crashes.{reading_of}
use Rattle.disk_model.proofs.CrashLemmas.{Rises, rises_if, read_more}
use Rattle.disk_model.proofs.crash.left_at.Goals as goal

pub loop-number-preserved : goal.loop-number-preserved
loop-number-preserved c =
    let old = reading_of c.loop-number.reading in
    let item = c.loop-number-item.result in
    record {
      rises = subst Rises (sym c.in_ok-read_before.ensures) (rises_if (ltb item.0 c.args.moment) c.args.pick (act_of item.1) old c.loop-number.invariant.rises);
      same = read_more c.args.pick c.args.moment c.args.log.now c.loop-number.number-index item (omega arith) c.loop-number-item.is old (reading_of c.read_before.new.reading) _ c.in_ok-read_before.ensures c.loop-number.invariant.same;
    }
