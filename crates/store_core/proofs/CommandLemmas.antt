-- A command that makes one edit does what is planned.
use Rattle.std.proofs.Common.{◌≡◌, inl, inr, ⊎_elim, ℕ, ◌+◌, ◌≤◌, List, [], ◌∷◌, Some, None, refl, ap, sym, ◌∙◌, subst, arith}
use Rattle.std.specs.Prelude.{IsFalse, OnOk, Result, Ok, Err}
use Rattle.gopass_base.specs.Text.{Text}
use Rattle.gopass_base.specs.Faults.{HasCause, Rose}
use Rattle.disk_model.specs.Files.{Files}
use Rattle.disk_model.specs.Runs.{Leaves}
use Rattle.disk_model.proofs.RunLemmas.{leaves_then, rests_then}
use Rattle.pending_journal.specs.Redo.{RecoversTo}
use Rattle.cipher_port.specs.Tool.{Opens}
use Rattle.store_state.specs.State.{State, StandsFor}
use Rattle.store_core.specs.Elsewhere.{IsSameElsewhere}
use Rattle.store_core.specs.Events.{Events, calm, Cause, TheDisk, Memory, Stop}
use Rattle.store_core.specs.Moment.{Moment, Tools, moment_of}
use Rattle.store_core.specs.Plans.{Done, Plan, commits, outcome_by}
use Rattle.store_core.specs.Steps.{answer_up_to, just, stop_outcome}
use Rattle.mount_table.specs.declared.mounts.Row.{Row}
use Rattle.disk_model.specs.declared.disk.Disk.{Ghosts}
use Rattle.cipher_port.specs.Tool.{Ring}
use Rattle.store_core.specs.declared.edit.ApplyFault.{ApplyFault}
use Rattle.store_core.specs.declared.edit.ApplyFault.TheVariants.{Disk as ApplyDisk, NoMemory as ApplyNoMemory}
use Rattle.store_core.specs.declared.store.Store.{Store}
use Rattle.store_core.specs.Applying.{made_by}
use Rattle.store_core.specs.Does.{AreCaused, Keeps}
use Rattle.store_core.specs.Edit.{Entry, edited, paths_in}
use Rattle.store_core.specs.Refusals.{as_refused}
use Rattle.store_core.specs.declared.refusal.Refusal.{Refusal}
use Rattle.store_core.specs.Performs.{Goes, IsPassed, KeepsElsewhere, Performs, Walks}
use Rattle.store_core.proofs.PerformLemmas.{Still, Ties, calm_tied, just_stopped, rests_elsewhere, stands_at_rest, stopped_tied}

-- a moment as an edit sees it, which asks no tool
abbrev pub plain : Moment → Moment
plain m = record { view = m.view; faults = record { disk = m.faults.disk; tools = 0 }; calls = 0; commits = m.commits; stuck = m.stuck }

module _ {S : Type 0} (Stands : Files → S → Type 0) (root : Text) (start next : S) (plan : Events → Plan S) (old mid new : Moment) (paths : List Text) (s : Stands old.view.files start) (still : Still root old mid)
    (elsewhere : KeepsElsewhere root paths (plain mid) (plain new)) where
  passed_at_rest : (m : Files) → mid.view.images m → IsPassed Stands root start (next ∷ []) m
  passed_at_rest m im =
      (0, omega arith, (old.view.files, subst (λ (f : Files). RecoversTo root f old.view.files) (sym (still.at_rest.only m (still.rests.only m im))) (stands_at_rest root old.view.files still.at_rest.none), s))

  -- what came before the edit changed nothing
  goes_since : (n : ℕ) → Goes Stands root start (next ∷ []) n (plain mid) (plain new) → Goes Stands root start (next ∷ []) n old new
  goes_since n g = record {
    within = g.within;
    counted = record { least = omega (arith, g.counted.least, still.commits); most = omega (arith, g.counted.most, still.commits) };
    state = g.state;
    any_moment = leaves_then (IsPassed Stands root start (next ∷ [])) old.view mid.view new.view
        (record {
          later = still.rests.time.later;
          now = passed_at_rest;
          during = λ t m le left. ⊎_elim (λ was. inl was) (λ im. inr (passed_at_rest m im)) (still.rests.time.only t m le left);
        }) g.any_moment;
    at_end = g.at_end;
    still = λ e free. rests_then old.view mid.view new.view still.rests (g.still e free);
  }

  all_elsewhere : KeepsElsewhere root paths old new
  all_elsewhere = record {
    images = leaves_then (IsSameElsewhere root paths old.view.files) old.view mid.view new.view (rests_elsewhere root paths old mid still).images
        (subst (λ (f : Files). Leaves (IsSameElsewhere root paths f) mid.view new.view) still.rests.files elsewhere.images);
    files = λ free other apart. elsewhere.files free other apart ∙ ap (λ (f : Files). f other) still.rests.files;
  }

  -- the edit was made
  pub edit_made : (events : Events) (calls : ℕ) → Ties old.faults new.faults events None → new.calls ≤ old.calls + calls → plan events ≡ commits next calls paths
      → Goes Stands root start (next ∷ []) 1 (plain mid) (plain new) → Performs Stands root plan start old new (just (Done []))
  edit_made events calls ties few is goes = record {
    events = events;
    stop = None;
    tied = ties.tied;
    is = sym (ap (answer_up_to None) is);
    tells = λ name has. absurd (ties.none name has);
    walks = subst (λ (p : Plan S). Walks Stands root start p None old new) (sym is) (record { stops = record { within = omega arith; one_open = omega arith }; goes = goes_since 1 goes });
    calls = omega (arith, few, ap (λ (p : Plan S). p.calls) is);
    elsewhere = subst (λ (p : Plan S). KeepsElsewhere root p.changes old new) (sym is) all_elsewhere;
  }

  -- it was not, or may have been made
  pub edit_stopped : (cause : Cause) (calls : ℕ) → old.faults.tools ≤ new.faults.tools → (cause ≡ TheDisk → Rose old.faults.disk new.faults.disk) → new.calls ≤ old.calls + calls
      → plan calm ≡ commits next calls paths → Goes Stands root start (next ∷ []) 0 (plain mid) (plain new) → Performs Stands root plan start old new (just (stop_outcome cause))
  edit_stopped cause calls later tie few is goes =
      let stop : Stop = record { cause = cause; steps = 1; commits = 0 } in
      let ties = stopped_tied old.faults new.faults stop later tie in
      record {
        events = calm;
        stop = Some stop;
        tied = ties.tied;
        is = just_stopped cause ∙ sym (ap (answer_up_to (Some stop)) is);
        tells = λ name has. absurd (ties.none name has);
        walks = subst (λ (p : Plan S). Walks Stands root start p (Some stop) old new) (sym is) (record { stops = record { within = omega arith; one_open = omega arith }; goes = goes_since 0 goes });
        calls = omega (arith, few, ap (λ (p : Plan S). p.calls) is);
        elsewhere = subst (λ (p : Plan S). KeepsElsewhere root p.changes old new) (sym is) all_elsewhere;
      }

-- both at once, by what the edit answered
pub edit_performs : (opens : Opens) (root : Text) (start next : State) (plan : Events → Plan State) (old mid new : Moment) (mounts : List Row) (edit : List Entry) (paths : List Text) (calls : ℕ) (r : Result (Unit {0}) ApplyFault)
    → StandsFor opens root old.view.files start → Still root old mid
    → plan calm ≡ commits next calls paths → edited opens edit start ≡ next → paths_in mounts edit ≡ paths
    → old.faults.tools ≤ new.faults.tools → HasCause mid.faults.disk new.faults.disk (r ≡ Err ApplyDisk) → old.faults.disk ≤ mid.faults.disk → new.calls ≤ old.calls + calls
    → Goes (StandsFor opens root) root start (edited opens edit start ∷ []) (made_by r) (plain mid) (plain new) → KeepsElsewhere root (paths_in mounts edit) (plain mid) (plain new)
    → Performs (StandsFor opens root) root plan start old new (just (outcome_by (λ done. []) (as_refused r)))
edit_performs opens root start next plan old mid new mounts edit paths calls r s still is made same tools cause later few goes elsewhere = by r cause (subst (λ (x : State). Goes (StandsFor opens root) root start (x ∷ []) (made_by r) (plain mid) (plain new)) made goes)
  where
    here : KeepsElsewhere root paths (plain mid) (plain new)
    here = subst (λ (l : List Text). KeepsElsewhere root l (plain mid) (plain new)) same elsewhere

    by : (r : Result (Unit {0}) ApplyFault) → HasCause mid.faults.disk new.faults.disk (r ≡ Err ApplyDisk) → Goes (StandsFor opens root) root start (next ∷ []) (made_by r) (plain mid) (plain new) → Performs (StandsFor opens root) root plan start old new (just (outcome_by (λ done. []) (as_refused r)))
    by (Ok done) cause goes = edit_made (StandsFor opens root) root start next plan old mid new paths s still here calm calls (calm_tied old.faults new.faults tools) few is goes
    by (Err ApplyDisk) cause goes = edit_stopped (StandsFor opens root) root start next plan old mid new paths s still here TheDisk calls tools (λ e. (let rose = cause.failed refl in omega (arith, rose, later))) few is goes
    by (Err ApplyNoMemory) cause goes = edit_stopped (StandsFor opens root) root start next plan old mid new paths s still here Memory calls tools (λ e. absurd (cc)) few is goes

-- and what holds told or not
module _ {D : Type 0} {G : Ghosts D} (most : ℕ) (old new : Store D G) (before after : Tools) (tools : (moment_of new after).faults.tools ≡ (moment_of old before).faults.tools) (calls : after.calls ≤ before.calls + most)
    (root : new.vault.root ≡ old.vault.root) (rings : (ring : Ring) → before.have ring → after.have ring) where
  no_tool : {Told : Type 0} → ¬ Told → AreCaused before.faults after.faults Told
  no_tool none = record { later = omega (arith, tools); failed = λ e. absurd (none e); stays = λ other. tools }

  pub edit_keeps : (r : Result (Unit {0}) ApplyFault) → HasCause (moment_of old before).faults.disk (moment_of new after).faults.disk (r ≡ Err ApplyDisk) → OnOk r (IsFalse new.vault.stuck)
      → Keeps most old new before after (outcome_by (λ done. []) (as_refused r))
  edit_keeps (Ok done) cause free = record {
    causes = record { tools = no_tool (λ (n, e). cc); disk = record { later = cause.later; failed = λ e. absurd (cc); stays = λ other. cause.stays (λ e. cc); once = cause.once } };
    calls = calls;
    free = λ no_disk memory. free;
    root = root;
    rings = rings;
  }
  edit_keeps (Err ApplyDisk) cause free = record {
    causes = record { tools = no_tool (λ (n, e). cc); disk = record { later = cause.later; failed = λ e. cause.failed refl; stays = λ other. absurd (other refl); once = cause.once } };
    calls = calls;
    free = λ no_disk memory. absurd (no_disk refl);
    root = root;
    rings = rings;
  }
  edit_keeps (Err ApplyNoMemory) cause free = record {
    causes = record { tools = no_tool (λ (n, e). cc); disk = record { later = cause.later; failed = λ e. absurd (cc); stays = λ other. cause.stays (λ e. cc); once = cause.once } };
    calls = calls;
    free = λ no_disk memory. absurd (memory refl);
    root = root;
    rings = rings;
  }

-- what holds where the edit was made
pub where_made : {P Q : Type 0} (r : Result (Unit {0}) ApplyFault) (answer : Result (Unit {0}) Refusal) → answer ≡ as_refused r → (P → Q) → OnOk r P → OnOk answer Q
where_made {P} {Q} r answer is f has = subst (λ (x : Result (Unit {0}) Refusal). OnOk x Q) (sym is) (by r has)
  where
    by : (r : Result (Unit {0}) ApplyFault) → OnOk r P → OnOk (as_refused r) Q
    by (Ok done) has = f has
    by (Err ApplyDisk) has = tt
    by (Err ApplyNoMemory) has = tt
