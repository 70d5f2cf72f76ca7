-- Commands that change nothing, and want of memory after any command.
use Rattle.std.proofs.Common.{◌≡◌, inl, inr, ⊎_elim, ℕ, ◌+◌, ◌≤◌, true, List, [], length, Option, None, Some, refl, sym, ◌∙◌, ap, subst, arith}
use Rattle.std.specs.Prelude.{Contains}
use Rattle.std.proofs.lemmas.List.{take_all}
use Rattle.gopass_base.specs.Text.{Text}
use Rattle.gopass_base.specs.Faults.{Rose}
use Rattle.disk_model.specs.Disk.{Rests}
use Rattle.disk_model.specs.Files.{Files}
use Rattle.disk_model.proofs.RunLemmas.{rests_none}
use Rattle.pending_journal.specs.Redo.{IsAtRest, RecoversTo}
use Rattle.pending_journal.specs.Service.{is_service, journal_path}
use Rattle.pending_journal.proofs.ServiceLemmas.{service_journal}
use Rattle.pending_journal.proofs.RedoLemmas.{stands_none, without_none}
use Rattle.store_core.specs.Plans.{Outcome, Plan, Step, Failed, answers_within}
use Rattle.store_core.specs.Steps.{Answer, answer_up_to, answered, cut_off, just, known, states_of, stop_outcome, told_after, told_of}
use Rattle.store_core.specs.Events.{Events, calm, refusing, Cause, TheDisk, Memory, Stop}
use Rattle.store_core.specs.Moment.{Faults, Moment}
use Rattle.store_core.specs.Elsewhere.{IsSameElsewhere}
use Rattle.store_core.specs.Performs.{IsTied, Goes, KeepsElsewhere, LeftFor, Performs, Walks}

-- files without any of the vault's own stand for themselves
pub stands_at_rest : (root : Text) (files : Files) → ((q : Text) → is_service root q ≡ true → files q ≡ None) → RecoversTo root files files
stands_at_rest root files none = stands_none root files files (none (journal_path root) (service_journal root)) (sym (without_none root files none))

-- nothing of the store is changed, whose files are the only image, and no count of faults fell
pub record Still (root : Text) (old new : Moment) : Type 0 where
  pub at_rest : IsAtRest root old.view
  pub rests : Rests old.view new.view
  pub commits : new.commits ≡ old.commits
  pub tools_later : old.faults.tools ≤ new.faults.tools

pub still_same : (root : Text) (m : Moment) → IsAtRest root m.view → Still root m m
still_same root m rest = record { at_rest = rest; rests = rests_none m.view; commits = refl; tools_later = omega arith }

-- so each file is as it was
pub rests_elsewhere : (root : Text) (paths : List Text) (old new : Moment) → Still root old new → KeepsElsewhere root paths old new
rests_elsewhere root paths old new still = record {
  images = record {
    later = still.rests.time.later;
    now = each;
    during = λ t m le left. ⊎_elim (λ was. inl was) (λ im. inr (each m im)) (still.rests.time.only t m le left);
  };
  files = λ free other apart. ap (λ (f : Files). f other) still.rests.files;
}
  where
    each : (m : Files) → new.view.images m → IsSameElsewhere root paths old.view.files m
    each m im = (old.view.files, subst (λ (f : Files). RecoversTo root f old.view.files) (sym (still.at_rest.only m (still.rests.only m im))) (stands_at_rest root old.view.files still.at_rest.none), λ other apart. refl)

-- ---- events and stops

cause_in : Option Stop → Cause
cause_in None = Memory
cause_in (Some stop) = stop.cause

pub no_stop : (s : Stop) → ◌≡◌ {A = Option Stop} None (Some s) → ⊥
no_stop s e = cc

pub same_cause : (stop s : Stop) → ◌≡◌ {A = Option Stop} (Some stop) (Some s) → stop.cause ≡ s.cause
unfolding cause_in
same_cause stop s e = ap cause_in e

pub not_the_disk : (stop s : Stop) → stop.cause ≡ Memory → ◌≡◌ {A = Option Stop} (Some stop) (Some s) → s.cause ≡ TheDisk → ⊥
not_the_disk stop s memory e disk = let wrong : Memory ≡ TheDisk = sym memory ∙ (same_cause stop s e ∙ disk) in cc

-- the events and a stop are tied to what happened, and no secret is to be told of
pub record Ties (old new : Faults) (events : Events) (stop : Option Stop) : Type 0 where
  pub tied : IsTied old new events stop
  pub none : (name : Text) → ¬ Contains events.failed name

none_failed : (name : Text) → ¬ Contains {X = Text} [] name
none_failed name (k, lt, is) = absurd (omega (arith, lt))

-- nothing failed
pub calm_tied : (old new : Faults) → old.tools ≤ new.tools → Ties old new calm None
calm_tied old new later = record { tied = record { tools = omega (arith, later); disk = λ s e is. absurd (no_stop s e) }; none = none_failed }

-- a tool failed for one name
pub refusing_tied : (old new : Faults) (name : Text) → Rose old.tools new.tools → Ties old new (refusing name) None
refusing_tied old new name rose = record { tied = record { tools = omega (arith, rose); disk = λ s e is. absurd (no_stop s e) }; none = none_failed }

pub stopped_tied : (old new : Faults) (stop : Stop) → old.tools ≤ new.tools → (stop.cause ≡ TheDisk → Rose old.disk new.disk) → Ties old new calm (Some stop)
stopped_tied old new stop later tie = record { tied = record { tools = omega (arith, later); disk = λ s e is. tie (same_cause stop s e ∙ is) }; none = none_failed }

-- where none was told of
pub just_stopped : (cause : Cause) → just (stop_outcome cause) ≡ record { outcome = stop_outcome cause; told = told_after cause [] }
just_stopped TheDisk = refl
just_stopped Memory = refl

-- ---- nothing is changed

module _ {S : Type 0} (Stands : Files → S → Type 0) (root : Text) (start : S) (plan : Events → Plan S) (old new : Moment) (s : Stands old.view.files start) (still : Still root old new) where
  -- each image that was there stands for the start
  start_left : (m : Files) → old.view.images m → LeftFor Stands root start m
  start_left m im = (old.view.files, subst (λ (f : Files). RecoversTo root f old.view.files) (sym (still.at_rest.only m im)) (stands_at_rest root old.view.files still.at_rest.none), s)

  -- and so does each that is there now
  still_left : (m : Files) → new.view.images m → LeftFor Stands root start m
  still_left m im = start_left m (still.rests.only m im)

  pub goes_still : (states : List S) → Goes Stands root start states 0 old new
  goes_still states = record {
    within = omega arith;
    counted = record { least = omega (arith, still.commits); most = omega (arith, still.commits) };
    state = λ free. subst (λ (f : Files). Stands f start) (sym still.rests.files) s;
    any_moment = record {
      later = still.rests.time.later;
      now = λ m im. (0, omega arith, still_left m im);
      during = λ t m le left. ⊎_elim (λ was. inl was) (λ im. inr (0, omega arith, still_left m im)) (still.rests.time.only t m le left);
    };
    at_end = λ m im. inl (still_left m im);
    still = λ e free. still.rests;
  }

  -- the plan has no steps
  pub quiet : (events : Events) (said : Outcome) (calls : ℕ) → Ties old.faults new.faults events None → new.calls ≤ old.calls + calls
      → plan events ≡ answers_within calls said → Performs Stands root plan start old new (just said)
  quiet events said calls ties few is = record {
    events = events;
    stop = None;
    tied = ties.tied;
    is = sym (ap (answer_up_to None) is);
    tells = λ name has. absurd (ties.none name has);
    walks = subst (λ (p : Plan S). Walks Stands root start p None old new) (sym is) (record { stops = record { within = omega arith; one_open = omega arith }; goes = goes_still [] });
    calls = omega (arith, few, ap (λ (p : Plan S). p.calls) is);
    elsewhere = rests_elsewhere root (plan events).changes old new still;
  }

  -- the disk or want of memory stopped it before any step
  pub quiet_stop : (cause : Cause) → (cause ≡ TheDisk → Rose old.faults.disk new.faults.disk) → new.calls ≤ old.calls + (plan calm).calls → Performs Stands root plan start old new (just (stop_outcome cause))
  quiet_stop cause tie few =
      let stop : Stop = record { cause = cause; steps = 0; commits = 0 } in
      let ties = stopped_tied old.faults new.faults stop still.tools_later tie in
      record {
        events = calm;
        stop = Some stop;
        tied = ties.tied;
        is = just_stopped cause;
        tells = λ name has. absurd (ties.none name has);
        walks = record { stops = record { within = omega arith; one_open = omega arith }; goes = goes_still [] };
        calls = few;
        elsewhere = rests_elsewhere root (plan calm).changes old new still;
      }

-- ---- want of memory after the command: the same states, and another answer

-- a stop for want of memory where it ended
abbrev ended : {S : Type 0} → Option Stop → List (Step S) → Stop
ended stop steps = record { cause = Memory; steps = known stop steps; commits = answered stop steps }

cut_again : {S : Type 0} (stop : Option Stop) (steps : List (Step S)) → cut_off (Some (ended stop steps)) steps ≡ cut_off stop steps
cut_again None steps = take_all (length steps) steps (omega arith)
cut_again (Some stop) steps = refl

pub wants_memory : {S : Type 0} (Stands : Files → S → Type 0) (root : Text) (start : S) (plan : Events → Plan S) (old new : Moment) (answer : Answer)
    → Performs Stands root plan start old new answer → Performs Stands root plan start old new (just (stop_outcome Memory))
wants_memory {S} Stands root start plan old new answer p =
    let steps = (plan p.events).steps in
    let stop = ended p.stop steps in
    let same = cut_again p.stop steps in
    record {
      events = p.events;
      stop = Some stop;
      tied = record { tools = p.tied.tools; disk = λ s e is. absurd (not_the_disk stop s refl e is) };
      is = refl;
      tells = λ name has. subst (λ (l : List (Step S)). Contains (told_of l) (name, Failed)) (sym same) (p.tells name has);
      walks = record {
        stops = record { within = p.walks.stops.within; one_open = subst (λ (l : List (Step S)). length (states_of l) ≤ answered p.stop steps + 1) (sym same) p.walks.stops.one_open };
        goes = subst (λ (l : List (Step S)). Goes Stands root start (states_of l) (answered p.stop steps) old new) (sym same) p.walks.goes;
      };
      calls = p.calls;
      elsewhere = p.elsewhere;
    }
