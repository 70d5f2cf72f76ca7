use Rattle.std.proofs.Common.{◌≡◌, ◌≤◌, take}
use Rattle.std.specs.Prelude.{⊤}
use Rattle.std.specs.FinMap as map
use Rattle.gopass_base.specs.Faults.{Costs}
use Rattle.disk_model.specs.Disk.{Rests}
use Rattle.pending_journal.specs.Opened.{OnlyReads}
use Rattle.store_state.specs.RuleFiles.{AreRules}
use Rattle.store_state.proofs.rule_files.read_rules.Given as goal

abbrev pub invariant-loop-folder : goal.invariant-loop-folder
invariant-loop-folder g l =
    let disk = g.D.Disk.meaning in
    record {
      kept : OnlyReads l.fn.vault l.vault;
      stays : disk.faults l.vault.disk ≡ disk.faults l.fn.vault.disk;
      costs : Costs l.folder-index (disk.calls l.fn.vault.disk) (disk.calls l.vault.disk) ⊤;
      few : map.len l.rules ≤ l.folder-index;
      told : disk.tells → Rests (disk.view l.fn.vault.disk) (disk.view l.vault.disk) × AreRules l.fn.vault.root (disk.view l.fn.vault.disk).files l.mounts (take l.folder-index l.folders) l.rules;
    }
