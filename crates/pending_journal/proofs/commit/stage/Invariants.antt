use Rattle.std.proofs.Common.{◌≡◌}
use Rattle.std.specs.Prelude.{⊤}
use Rattle.gopass_base.specs.Faults.{Costs}
use Rattle.pending_journal.specs.Carrying.{IsUnseen, IsStaged}
use Rattle.disk_model.specs.Runs.{Runs}
use Rattle.pending_journal.proofs.commit.stage.Given as goal

abbrev pub invariant-loop-put : goal.invariant-loop-put
invariant-loop-put g l =
    let view = g.D.Disk.meaning.view in
    record {
      runs : g.D.Disk.meaning.tells → Runs (IsUnseen l.change.root) (view l.fn.disk) (view l.disk);
      staged : g.D.Disk.meaning.tells → IsStaged l.change l.put-index (view l.fn.disk).files (view l.disk).files;
      faults : g.D.Disk.meaning.faults l.disk ≡ g.D.Disk.meaning.faults l.fn.disk;
      held : g.D.Disk.meaning.held l.disk ≡ g.D.Disk.meaning.held l.fn.disk;
      asked : g.D.Disk.meaning.asked l.disk ≡ g.D.Disk.meaning.asked l.fn.disk;
      costs : Costs l.put-index (g.D.Disk.meaning.calls l.fn.disk) (g.D.Disk.meaning.calls l.disk) ⊤;
    }
