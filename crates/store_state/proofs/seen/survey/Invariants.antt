use Rattle.std.proofs.Common.{◌≡◌, ℕ, ◌<◌, ◌≤◌, All, length, get_or}
use Rattle.std.specs.Prelude.{IsFalse, ⊤}
use Rattle.gopass_base.specs.Faults.{Costs}
use Rattle.disk_model.specs.Disk.{Rests}
use Rattle.pending_journal.specs.Opened.{OnlyReads}
use Rattle.store_state.specs.Survey.{IsSeen, IsCountOf}
use Rattle.store_state.proofs.seen.survey.Given as goal

abbrev pub invariant-loop-row : goal.invariant-loop-row
invariant-loop-row g l =
    let disk = g.D.Disk.meaning in
    let files = (disk.view l.fn.vault.disk).files in
    record {
      kept : OnlyReads l.fn.vault l.vault;
      stays : disk.faults l.vault.disk ≡ disk.faults l.fn.vault.disk;
      costs : IsFalse l.fn.vault.stuck → Costs l.row (disk.calls l.fn.vault.disk) (disk.calls l.vault.disk) ⊤;
      counted : length l.counts.items ≡ l.row;
      few : All (λ (n : ℕ). n ≤ 40000) l.counts.items;
      told : disk.tells → Rests (disk.view l.fn.vault.disk) (disk.view l.vault.disk) × IsSeen l.fn.vault.root files l.mounts l.row l.seen × ((k : ℕ) → k < l.row → IsCountOf l.fn.vault.root files l.mounts k (get_or l.counts.items k 0));
    }
