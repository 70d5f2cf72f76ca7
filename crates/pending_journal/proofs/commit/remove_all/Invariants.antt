use Rattle.std.proofs.Common.{◌≡◌}
use Rattle.std.specs.Prelude.{⊤}
use Rattle.gopass_base.specs.Faults.{Costs}
use Rattle.pending_journal.specs.Carrying.{IsRemoved, IsSameBut}
use Rattle.disk_model.specs.Runs.{Runs}
use Rattle.pending_journal.proofs.commit.remove_all.Given as goal

abbrev pub invariant-loop-path : goal.invariant-loop-path
invariant-loop-path g l =
    let view = g.D.Disk.meaning.view in
    record {
      runs : g.D.Disk.meaning.tells → Runs (IsSameBut l.paths) (view l.fn.disk) (view l.disk);
      removed : g.D.Disk.meaning.tells → IsRemoved l.paths l.path-index (view l.fn.disk).files (view l.disk).files;
      faults : g.D.Disk.meaning.faults l.disk ≡ g.D.Disk.meaning.faults l.fn.disk;
      held : g.D.Disk.meaning.held l.disk ≡ g.D.Disk.meaning.held l.fn.disk;
      asked : g.D.Disk.meaning.asked l.disk ≡ g.D.Disk.meaning.asked l.fn.disk;
      costs : Costs l.path-index (g.D.Disk.meaning.calls l.fn.disk) (g.D.Disk.meaning.calls l.disk) ⊤;
    }
