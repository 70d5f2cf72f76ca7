use Rattle.std.proofs.Common.{◌≡◌, drop}
use Rattle.disk_model.specs.Entries.{entries_of}
use Rattle.disk_model.specs.Acts.{before, log_of}
use Rattle.disk_model.specs.Crashes.{replay_all, replay_start, reading_of}
use Rattle.disk_model.proofs.CrashLemmas.{Rises}
use Rattle.disk_model.proofs.crash.left_at.Given as goal

abbrev pub invariant-loop-number : goal.invariant-loop-number
invariant-loop-number l = record {
  rises : Rises (reading_of l.reading);
  same : replay_all l.pick (before l.moment (log_of (drop l.number-index l.log))) (reading_of l.reading) ≡ replay_all l.pick (before l.moment (log_of l.log)) (replay_start (entries_of l.start));
}
