-- The causes of an outcome, where nothing was asked to change the disk.
use Rattle.std.proofs.Common.{◌≡◌, ◌≢◌, ◌+◌, ◌≤◌, ap, arith}
use Rattle.std.specs.Prelude.{Result, Ok, Err, IsFalse}
use Rattle.gopass_base.specs.Text.{Text}
use Rattle.store_core.specs.Does.{AreCaused, Keeps}
use Rattle.disk_model.specs.declared.disk.Disk.{Ghosts}
use Rattle.cipher_port.specs.Tool.{Ring}
use Rattle.store_core.specs.declared.refusal.Refusal.{Refusal}
use Rattle.store_core.specs.declared.refusal.Refusal.TheVariants.{Tool, Disk}
use Rattle.store_core.specs.declared.store.Store.{Store}
use Rattle.store_core.specs.Moment.{Tools, moment_of}
use Rattle.store_core.specs.Plans.{Refused, outcome_by}

-- which answer has which outcome
pub refused_is : (a b : Refusal) → Refused a ≡ Refused b → a ≡ b
refused_is a b e = cc

pub answer_is : {T : Type 0} (printed : T → Text) (r : Result T Refusal) (refusal : Refusal) → outcome_by printed r ≡ Refused refusal → r ≡ Err refusal
answer_is printed (Ok x) refusal e = absurd (cc)
answer_is printed (Err other) refusal e = ap Err (refused_is other refusal e)

-- the disk was asked for nothing that failed
pub tool_keeps : {D : Type 0} {G : Ghosts D} {T : Type 0} (old new : Store D G) (before after : Tools) (printed : T → Text) (r : Result T Refusal)
    → AreCaused before.faults after.faults ((n : Text) × (r ≡ Err (Tool n))) → r ≢ Err Disk → (moment_of new after).faults.disk ≡ (moment_of old before).faults.disk → after.calls ≤ before.calls + 1
    → IsFalse new.vault.stuck → new.vault.root ≡ old.vault.root → ((ring : Ring) → before.have ring → after.have ring) → Keeps 1 old new before after (outcome_by printed r)
tool_keeps old new before after printed r cause no_disk disk calls free root rings = record {
  causes = record {
    tools = record {
      later = cause.later;
      failed = λ (n, e). cause.failed (n, answer_is printed r (Tool n) e);
      stays = λ other. cause.stays (λ (n, e). other (n, ap (outcome_by printed) e));
    };
    disk = record { later = omega (arith, disk); failed = λ e. absurd (no_disk (answer_is printed r Disk e)); stays = λ other. disk; once = omega (arith, disk) };
  };
  calls = calls;
  free = λ other memory. free;
  root = root;
  rings = rings;
}
