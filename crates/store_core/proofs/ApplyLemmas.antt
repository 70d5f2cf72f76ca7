-- What an edit that was committed, or was not, leaves.
use Rattle.std.proofs.Common.{◌≡◌, ◌⊎◌, inl, inr, ℕ, ◌<◌, true, List, [], ◌∷◌, length, None, refl, ap, sym, ◌∙◌, subst, arith}
use Rattle.std.specs.Prelude.{Result, Err}
use Rattle.std.proofs.lemmas.Bool.{false≢true}
use Rattle.gopass_base.specs.Text.{Text}
use Rattle.gopass_base.specs.Faults.{HasCause, counted}
use Rattle.mount_table.specs.Mounts.{IsTable}
use Rattle.disk_model.specs.Files.{Files}
use Rattle.disk_model.specs.Disk.{IsDurable}
use Rattle.disk_model.specs.Runs.{Leaves}
use Rattle.disk_model.proofs.RunLemmas.{leaves_weaken}
use Rattle.pending_journal.specs.Service.{is_service}
use Rattle.pending_journal.specs.Redo.{IsAtRest, IsBeforeOrAfter, RecoversTo}
use Rattle.pending_journal.specs.declared.vault.CommitFault.{CommitFault}
use Rattle.pending_journal.specs.declared.vault.CommitFault.TheVariants.{Disk as CommitDisk, Stuck as CommitStuck, NoMemory as CommitNoMemory}
use Rattle.cipher_port.specs.Tool.{Opens}
use Rattle.store_state.specs.State.{State, StandsFor}
use Rattle.store_core.specs.declared.edit.ApplyFault.{ApplyFault}
use Rattle.store_core.specs.declared.edit.ApplyFault.TheVariants.{Disk as ApplyDisk, NoMemory as ApplyNoMemory}
use Rattle.store_core.specs.Applying.{AreGood, IsFaultOf}
use Rattle.store_core.specs.Edit.{Entry, IsWithin, edited}
use Rattle.store_core.specs.Moment.{Moment}
use Rattle.store_core.specs.Plans.{Done, answers}
use Rattle.store_core.specs.Performs.{Goes, IsPassed, LeftFor}
use Rattle.store_core.proofs.PerformLemmas.{goes_still, stands_at_rest, still_same}
use Rattle.store_core.proofs.EditLemmas.{edited_files, edited_stands}
use Rattle.store_core.proofs.StepLemmas.{nearly_from, nearly_stands}

-- ---- the states passed

module _ (opens : Opens) (root : Text) (start next : State) (old new : Moment) (after : Files) (s : StandsFor opens root old.view.files start) (t : StandsFor opens root after next)
    (at_rest : IsAtRest root old.view) (run : Leaves (IsBeforeOrAfter root old.view.files after) old.view new.view) where
  passed : (m : Files) → IsBeforeOrAfter root old.view.files after m → IsPassed (StandsFor opens root) root start (next ∷ []) m
  passed m (inl before) = (0, omega arith, (old.view.files, before, s))
  passed m (inr made) = (1, omega arith, (after, made, t))

  reached : (m : Files) → IsBeforeOrAfter root old.view.files after m → LeftFor (StandsFor opens root) root start m ⊎ ((0 < length (next ∷ [])) × LeftFor (StandsFor opens root) root next m)
  reached m (inl before) = inl (old.view.files, before, s)
  reached m (inr made) = inr (omega arith, (after, made, t))

  -- the edit was committed
  pub goes_applied : ((path : Text) → is_service root path ≡ true → after path ≡ None) → IsDurable after new.view → new.commits ≡ counted old.commits → Goes (StandsFor opens root) root start (next ∷ []) 1 old new
  goes_applied none made count = record {
    within = omega arith;
    counted = record { least = omega (arith, count); most = omega (arith, count) };
    state = λ free. subst (λ (f : Files). StandsFor opens root f next) (sym made.files) t;
    any_moment = leaves_weaken (IsBeforeOrAfter root old.view.files after) (IsPassed (StandsFor opens root) root start (next ∷ [])) old.view new.view passed run;
    at_end = λ m im. inl (after, subst (λ (f : Files). RecoversTo root f after) (sym (made.only m im)) (stands_at_rest root after none), t);
    still = λ e free. absurd (omega (arith, e));
  }

  -- or failed
  pub goes_failed : new.commits ≡ old.commits → new.stuck ≡ true → Goes (StandsFor opens root) root start (next ∷ []) 0 old new
  goes_failed count stuck = record {
    within = omega arith;
    counted = record { least = omega (arith, count); most = omega (arith, count) };
    state = λ free. absurd (false≢true (sym free ∙ stuck));
    any_moment = leaves_weaken (IsBeforeOrAfter root old.view.files after) (IsPassed (StandsFor opens root) root start (next ∷ [])) old.view new.view passed run;
    at_end = λ m im. reached m (run.now m im);
    still = λ e free. absurd (false≢true (sym free ∙ stuck));
  }

-- nothing was begun
pub goes_same : (opens : Opens) (root : Text) (start : State) (states : List State) (m : Moment) → StandsFor opens root m.view.files start → IsAtRest root m.view → Goes (StandsFor opens root) root start states 0 m m
goes_same opens root start states m s rest = goes_still (StandsFor opens root) root start (λ events. answers (Done [])) m m s (still_same root m rest) states

-- the cause of a fault, by that of the commit
pub fault_caused : (commit : CommitFault) (fault : ApplyFault) (before now : ℕ) → IsFaultOf commit fault → HasCause before now (commit ≡ CommitDisk) → HasCause before now (◌≡◌ {A = Result (Unit {0}) ApplyFault} (Err fault) (Err ApplyDisk))
fault_caused CommitDisk fault before now is cause = record { later = cause.later; failed = λ e. cause.failed refl; stays = λ other. absurd (other (ap Err is)); once = cause.once }
fault_caused CommitStuck fault before now is cause = absurd is
fault_caused CommitNoMemory fault before now is cause = record { later = cause.later; failed = λ e. absurd (no_disk fault is e); stays = λ other. cause.stays (λ e. cc); once = cause.once }
  where
    no_disk : (fault : ApplyFault) → fault ≡ ApplyNoMemory → ◌≡◌ {A = Result (Unit {0}) ApplyFault} (Err fault) (Err ApplyDisk) → ⊥
    no_disk fault is e = cc

-- the state after the edit, where it passes no limit
pub edited_state_stands : (opens : Opens) (root : Text) (entries : List Entry) (files : Files) (state : State) → AreGood entries → IsTable root state.mounts → StandsFor opens root files state → IsWithin (edited opens entries state)
    → StandsFor opens root (edited_files state.mounts entries files) (edited opens entries state)
edited_state_stands opens root entries files state good table s within = nearly_stands opens root (edited_files state.mounts entries files) (edited opens entries state) (edited_stands opens root entries files state good table (nearly_from opens root files state s)) within
