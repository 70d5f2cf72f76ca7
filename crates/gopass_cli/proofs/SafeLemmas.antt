-- How the parts of a run keep the crash promise.
use Rattle.std.proofs.Common.{◌≡◌, ◌≢◌, ◌⊎◌, inl, inr, ⊎_elim, ℕ, zero, suc, ◌≤◌, List, [], ◌∷◌, ◌++◌, Option, None, Some, refl, sym, ◌∙◌, ap, subst, arith}
use Rattle.std.specs.Prelude.{Contains}
use Rattle.std.proofs.lemmas.List.Elements.{Contains-append_left, Contains-append_right}
use Rattle.gopass_base.specs.Text.{Text}
use Rattle.gopass_base.proofs.ListLemmas.{here, later}
use Rattle.disk_model.specs.Files.{Files}
use Rattle.disk_model.specs.Disk.{View, IsSound, Rests}
use Rattle.disk_model.specs.Runs.{Leaves}
use Rattle.disk_model.proofs.RunLemmas.{leaves_none, leaves_then, leaves_weaken}
use Rattle.pending_journal.specs.Redo.{IsAlike, IsAtRest, RecoversBy, RecoversTo}
use Rattle.pending_journal.specs.Faults.{HasBadJournal, RefusesVault}
use Rattle.pending_journal.specs.Recovery.{IsOldOrAlike}
use Rattle.pending_journal.proofs.PlanLemmas.{one_meaning}
use Rattle.store_core.specs.Steps.{Answer, answer_up_to, just, states_up_to, stop_outcome}
use Rattle.store_core.proofs.PerformLemmas.{stands_at_rest}
use Rattle.cipher_port.specs.Tool.{Opens, Ring}
use Rattle.command_words.specs.declared.command.Command.{Command}
use Rattle.store_state.specs.Faults.{IsFileFault}
use Rattle.store_state.specs.State.{State, StandsFor}
use Rattle.store_state.specs.declared.fault.StoreFault.{StoreFault}
use Rattle.store_state.specs.declared.fault.StoreFault.TheVariants.{BadFile, Full, Disk, NoMemory}
use Rattle.pending_journal.specs.declared.fault.VaultFault.{VaultFault}
use Rattle.pending_journal.specs.declared.fault.VaultFault.TheVariants.{BadJournal, Disk as NoVaultDisk, NoMemory as NoVaultRoom}
use Rattle.request_body.specs.declared.body.BodyFault.{BodyFault}
use Rattle.request_body.specs.declared.body.BodyFault.TheVariants.{Missing, Long, Failed, NoMemory as NoBodyRoom}
use Rattle.store_core.specs.Plans.{Outcome, Plan}
use Rattle.gopass_cli.specs.Actions.{subject_of}
use Rattle.gopass_cli.specs.declared.status.Status.TheVariants.{BadWords, DiskFailed, NoMemory as OutOfMemory, InputFailed, SinkFailed}
use Rattle.gopass_cli.specs.Statuses.{code}
use Rattle.gopass_cli.specs.Said.{Said, said_of, unsaid}
use Rattle.store_core.specs.Elsewhere.{IsSameElsewhere}
use Rattle.store_core.specs.Events.{Cause, TheDisk, Memory, Stop}
use Rattle.store_core.specs.Moment.{Faults, Moment}
use Rattle.store_core.specs.Performs.{IsPassed, LeftFor, Performs, state_at}
use Rattle.request_body.specs.Bodies.{Input}
use Rattle.gopass_cli.specs.Plan.{plan_of}
use Rattle.request_body.specs.Given.{IsGiven}
use Rattle.gopass_cli.specs.Opening.{fault_said, vault_said}
use Rattle.gopass_cli.specs.Requests.{body_said}
use Rattle.gopass_cli.specs.Replies.{Says}
use Rattle.gopass_cli.specs.Printed.{Stream, Prints}
use Rattle.gopass_cli.specs.Safe.{IsOneOf, IsOldOrElsewhere, KeptOrOpens, StandsForOne, BeginsNone, BeganNone, Went, IsSafe}

-- ---- states among others

-- a state that is passed is the start, or one of those passed
pub start_or : (start : State) (states : List State) (n : ℕ) → (state_at start states n ≡ start) ⊎ Contains states (state_at start states n)
start_or start states zero = inl refl
start_or start [] (suc n) = inl refl
start_or start (s ∷ states) (suc n) = elim (start_or s states n) [
  | inl same ↦ inr (subst (Contains (s ∷ states)) (sym same) (here s states))
  | inr has ↦ inr (later s states (state_at s states n) has)
]

passed_among : (before states : List State) (start : State) (n : ℕ) → Contains before start → Contains (before ++ states) (state_at start states n)
passed_among before states start n from = elim (start_or start states n) [
  | inl same ↦ subst (Contains (before ++ states)) (sym same) (Contains-append_left before states start from)
  | inr has ↦ Contains-append_right before states (state_at start states n) has
]

-- ---- statuses of a run that begins no command

says_words : BeginsNone (code BadWords)
says_words = (0, omega arith, refl)

says_disk : BeginsNone (code DiskFailed)
says_disk = (1, omega arith, refl)

says_memory : BeginsNone (code OutOfMemory)
says_memory = (2, omega arith, refl)

says_input : BeginsNone (code InputFailed)
says_input = (3, omega arith, refl)

says_sink : BeginsNone (code SinkFailed)
says_sink = (4, omega arith, refl)

-- what is said, or want of memory
pub tells_said : (wanted said : Said) → BeginsNone wanted.status → Says wanted said → BeginsNone said.status
tells_said wanted said tells (inl is) = subst (λ (s : Said). BeginsNone s.status) (sym is) tells
tells_said wanted said tells (inr (own, is)) = subst (λ (s : Said). BeginsNone s.status) (sym is) says_memory

pub tells_words : (said wanted : Said) → wanted.status ≡ code BadWords → Says wanted said → BeginsNone said.status
tells_words said wanted is says = tells_said wanted said (subst BeginsNone (sym is) says_words) says

pub tells_body : (fault : BodyFault) (said : Said) → Says (body_said fault) said → BeginsNone said.status
tells_body Missing said says = tells_said (body_said Missing) said says_words says
tells_body Long said says = tells_said (body_said Long) said says_input says
tells_body Failed said says = tells_said (body_said Failed) said says_input says
tells_body NoBodyRoom said says = tells_said (body_said NoBodyRoom) said says_memory says

-- files that stand for a state are no reason to refuse a store
pub tells_store : (fault : StoreFault) (said : Said) → ¬ IsFileFault fault → Says (fault_said fault) said → BeginsNone said.status
tells_store (BadFile path line) said fits says = absurd (fits tt)
tells_store (Full limit) said fits says = absurd (fits tt)
tells_store Disk said fits says = tells_said (fault_said Disk) said says_disk says
tells_store NoMemory said fits says = tells_said (fault_said NoMemory) said says_memory says

-- files that stand for some have no bad journal
no_bad_journal : (root : Text) (files after : Files) → RecoversTo root files after → HasBadJournal root files → ⊥
no_bad_journal root files after stands (text, there, bad) =
    let (plan, good, is, made) = subst (λ (file : Option Text). RecoversBy root file files after) there stands in
    bad plan good is

pub tells_vault : (root : Text) (files after : Files) (fault : VaultFault) (said : Said) → RecoversTo root files after → RefusesVault root files fault → Says (vault_said root fault) said → BeginsNone said.status
tells_vault root files after (BadJournal line) said stands refuses says = absurd (no_bad_journal root files after stands refuses.0)
tells_vault root files after NoVaultDisk said stands refuses says = tells_said (vault_said root NoVaultDisk) said says_disk says
tells_vault root files after NoVaultRoom said stands refuses says = tells_said (vault_said root NoVaultRoom) said says_memory says

pub tells_memory : (said : Said) → said ≡ unsaid → BeginsNone said.status
tells_memory said is = subst (λ (s : Said). BeginsNone s.status) (sym is) says_memory

tells_printed : (said : Said) (status : ℕ) (out out' err err' : Stream) → Prints said status out out' err err' → BeginsNone said.status → BeginsNone status
tells_printed said status out out' err err' (inl all) tells = subst BeginsNone (sym all.status_is) tells
tells_printed said status out out' err err' (inr (inl stops)) tells = subst BeginsNone (sym stops.status_is) says_sink
tells_printed said status out out' err err' (inr (inr stops)) tells = subst BeginsNone (sym stops.status_is) says_sink

-- ---- a run that is not stopped

whole_by : (subject : Text) (stop : Option Stop) (plan : Plan State) (status : ℕ) → status ≡ (said_of subject (answer_up_to stop plan).outcome).status → status ≢ code DiskFailed → status ≢ code OutOfMemory → stop ≡ None
whole_by subject None plan status is disk memory = refl
whole_by subject (Some stop) plan status is disk memory = absurd (by stop.cause is)
  where
    by : (cause : Cause) → status ≡ (said_of subject (stop_outcome cause)).status → ⊥
    by TheDisk e = disk e
    by Memory e = memory e

module _ (opens : Opens) (root : Text) where
  -- a status that tells no fault of the disk or of a sink and no want of memory tells that there was no stop
  pub went_whole : (ring : Ring) (command : Command) (input : Input) (before : List State) (old new : View) (f0 f1 : Faults) (status : ℕ) → (w : Went opens root ring command input before old new f0 f1 status) → status ≢ code DiskFailed → status ≢ code OutOfMemory → status ≢ code SinkFailed → w.stop ≡ None
  went_whole ring command input before old new f0 f1 status w disk memory sink = whole_by (subject_of command) w.stop (plan_of ring command w.body w.start w.events) status (w.says sink) disk memory

  more_states : (before more : List State) (m : Files) → IsOneOf opens root before m → IsOneOf opens root (before ++ more) m
  more_states before more m (state, has, left) = (state, Contains-append_left before more state has, left)

  passed_is_one : (before states : List State) (start : State) → Contains before start → (m : Files) → IsPassed (StandsFor opens root) root start states m → IsOneOf opens root (before ++ states) m
  passed_is_one before states start from m (n, within, left) = (state_at start states n, passed_among before states start n from, left)

  -- ---- parts of a run that change no state

  pub same_safe : (before : List State) (v : View) → StandsForOne opens root before v → Leaves (IsOneOf opens root before) v v
  same_safe before v stand = leaves_none (IsOneOf opens root before) v stand

  pub rests_safe : (before : List State) (v0 v1 : View) → Rests v0 v1 → StandsForOne opens root before v0 → Leaves (IsOneOf opens root before) v0 v1
  rests_safe before v0 v1 rests stand = record {
    later = rests.time.later;
    now = λ m im. stand m (rests.only m im);
    during = λ t m le left. ⊎_elim (λ was. inl was) (λ im. inr (stand m (rests.only m im))) (rests.time.only t m le left);
  }

  -- a vault at rest in a state
  pub rest_left : (v : View) (state : State) → IsAtRest root v → StandsFor opens root v.files state → LeftFor (StandsFor opens root) root state v.files
  rest_left v state rest stands = (v.files, stands_at_rest root v.files rest.none, stands)

  pub rest_stands : (before : List State) (v : View) (state : State) → IsAtRest root v → StandsFor opens root v.files state → Contains before state → StandsForOne opens root before v
  rest_stands before v state rest stands has m im =
      (state, has, (v.files, subst (λ (f : Files). RecoversTo root f v.files) (sym (rest.only m im)) (stands_at_rest root v.files rest.none), stands))

  -- an opening
  pub opened_safe : (before : List State) (v0 v1 : View) → IsSound v0 → StandsForOne opens root before v0 → Leaves (IsOldOrAlike root v0) v0 v1 → Leaves (IsOneOf opens root before) v0 v1
  opened_safe before v0 v1 sound stand run = leaves_weaken (IsOldOrAlike root v0) (IsOneOf opens root before) v0 v1 each run
    where
      each : (m : Files) → IsOldOrAlike root v0 m → IsOneOf opens root before m
      each m (inl im) = stand m im
      each m (inr (after, was, now)) =
          let first = stand v0.files sound.now in
          let same = one_meaning root v0.files after first.2.0 was first.2.1 in
          (first.0, first.1, (first.2.0, subst (RecoversTo root m) same now, first.2.2))

  -- the files on the disk stand for the state of the files that are found in a vault at rest
  pub found_before : (v0 v1 : View) → RecoversTo root v0.files v1.files → IsAtRest root v1 → (s : State) → LeftFor (StandsFor opens root) root s v1.files → LeftFor (StandsFor opens root) root s v0.files
  found_before v0 v1 recovers rest s left =
      let same = one_meaning root v1.files v1.files left.0 (stands_at_rest root v1.files rest.none) left.1 in
      (left.0, subst (RecoversTo root v0.files) same recovers, left.2)

  -- a vault at rest of which nothing was changed
  pub rested : (v0 v1 : View) → Rests v0 v1 → IsAtRest root v0 → IsAtRest root v1
  rested v0 v1 rests rest = record {
    only = λ m im. rest.only m (rests.only m im) ∙ sym rests.files;
    none = λ path is. ap (λ (f : Files). f path) rests.files ∙ rest.none path is;
  }

  pub rested_recovers : (v0 v1 : View) → Rests v0 v1 → IsAtRest root v0 → RecoversTo root v0.files v1.files
  rested_recovers v0 v1 rests rest = subst (RecoversTo root v0.files) (sym rests.files) (stands_at_rest root v0.files rest.none)

  -- ---- each file is as it was

  pub same_kept : (v : View) → Leaves (IsOldOrAlike root v) v v
  same_kept v = leaves_none (IsOldOrAlike root v) v (λ m im. inl im)

  pub rests_kept : (v0 v1 : View) → Rests v0 v1 → Leaves (IsOldOrAlike root v0) v0 v1
  rests_kept v0 v1 rests = record {
    later = rests.time.later;
    now = λ m im. inl (rests.only m im);
    during = λ t m le left. ⊎_elim (λ was. inl was) (λ im. inr (inl (rests.only m im))) (rests.time.only t m le left);
  }

  -- files alike to those of a vault at rest are alike to those of which it was made
  alike_before : (v0 v1 : View) → RecoversTo root v0.files v1.files → IsAtRest root v1 → (m : Files) → IsAlike root v1.files m → IsAlike root v0.files m
  alike_before v0 v1 recovers rest m (after, was, now) =
      let same = one_meaning root v1.files v1.files after (stands_at_rest root v1.files rest.none) was in
      (after, subst (RecoversTo root v0.files) same recovers, now)

  kept_then : (v0 v1 v2 : View) → RecoversTo root v0.files v1.files → IsAtRest root v1 → Leaves (IsOldOrAlike root v0) v0 v1 → Leaves (IsOldOrAlike root v1) v1 v2 → Leaves (IsOldOrAlike root v0) v0 v2
  kept_then v0 v1 v2 recovers rest first second = leaves_then (IsOldOrAlike root v0) v0 v1 v2 first (leaves_weaken (IsOldOrAlike root v1) (IsOldOrAlike root v0) v1 v2 each second)
    where
      each : (m : Files) → IsOldOrAlike root v1 m → IsOldOrAlike root v0 m
      each m (inl im) = first.now m im
      each m (inr alike) = inr (alike_before v0 v1 recovers rest m alike)

  kept_elsewhere : (paths : List Text) (v : View) (files : Files) → RecoversTo root v.files files → (m : Files) → IsOldOrAlike root v m → IsOldOrElsewhere root paths v files m
  kept_elsewhere paths v files stands m (inl im) = inl im
  kept_elsewhere paths v files stands m (inr (after, was, now)) = inr (files, subst (RecoversTo root m) (one_meaning root v.files after files was stands) now, λ other apart. refl)

  -- an opening, and then what keeps the files or opens the store
  pub opens_then : (v0 v1 v2 : View) → RecoversTo root v0.files v1.files → IsAtRest root v1 → Leaves (IsOldOrAlike root v0) v0 v1 → KeptOrOpens root v1 v2 → KeptOrOpens root v0 v2
  opens_then v0 v1 v2 recovers rest first (inl kept) = inl (kept_then v0 v1 v2 recovers rest first kept)
  opens_then v0 v1 v2 recovers rest first (inr (after, again, found, is)) =
      inr (after, subst (RecoversTo root v0.files) (one_meaning root v1.files v1.files after (stands_at_rest root v1.files rest.none) again) recovers, found, is)

  elsewhere_then : (paths : List Text) (v0 v1 v2 : View) (files : Files) → RecoversTo root v0.files files → Leaves (IsOldOrAlike root v0) v0 v1 → Leaves (IsOldOrElsewhere root paths v1 files) v1 v2
      → Leaves (IsOldOrElsewhere root paths v0 files) v0 v2
  elsewhere_then paths v0 v1 v2 files stands first second = leaves_then (IsOldOrElsewhere root paths v0 files) v0 v1 v2
      (leaves_weaken (IsOldOrAlike root v0) (IsOldOrElsewhere root paths v0 files) v0 v1 (kept_elsewhere paths v0 files stands) first)
      (leaves_weaken (IsOldOrElsewhere root paths v1 files) (IsOldOrElsewhere root paths v0 files) v1 v2 each second)
    where
      each : (m : Files) → IsOldOrElsewhere root paths v1 files m → IsOldOrElsewhere root paths v0 files m
      each m (inl im) = kept_elsewhere paths v0 files stands m (first.now m im)
      each m (inr same) = inr same

  -- ---- a run that begins no command

  pub none_then : (before : List State) (v0 v1 v2 : View) (status : ℕ) → RecoversTo root v0.files v1.files → IsAtRest root v1 → Leaves (IsOldOrAlike root v0) v0 v1 → Leaves (IsOneOf opens root before) v0 v1
      → BeganNone opens root before v1 v2 status → BeganNone opens root before v0 v2 status
  none_then before v0 v1 v2 status recovers rest kept first none = record {
    tells = none.tells;
    any_moment = leaves_then (IsOneOf opens root before) v0 v1 v2 first none.any_moment;
    kept = kept_then v0 v1 v2 recovers rest kept none.kept;
  }

  -- what is printed of it says so too
  pub none_printed : (before : List State) (v0 v1 : View) (said : Said) (status : ℕ) (out out' err err' : Stream) → Prints said status out out' err err'
      → BeganNone opens root before v0 v1 said.status → BeganNone opens root before v0 v1 status
  none_printed before v0 v1 said status out out' err err' prints none = record {
    tells = tells_printed said status out out' err err' prints none.tells;
    any_moment = none.any_moment;
    kept = none.kept;
  }

  -- ---- the parts one after another

  pub safe_after : (ring : Ring) (command : Command) (input : Input) (before : List State) (v0 v1 v2 : View) (f0 f1 f2 : Faults) (status : ℕ) → f0.disk ≤ f1.disk → f0.tools ≤ f1.tools
      → RecoversTo root v0.files v1.files → IsAtRest root v1 → Leaves (IsOldOrAlike root v0) v0 v1 → Leaves (IsOneOf opens root before) v0 v1 → IsSafe opens root ring command input before v1 v2 f1 f2 status → IsSafe opens root ring command input before v0 v2 f0 f2 status
  unfolding found_before
  safe_after ring command input before v0 v1 v2 f0 f1 f2 status disk tools recovers rest kept first (inl none) = inl (none_then before v0 v1 v2 status recovers rest kept first none)
  safe_after ring command input before v0 v1 v2 f0 f1 f2 status disk tools recovers rest kept first (inr w) =
      let states = states_up_to w.stop (plan_of ring command w.body w.start w.events) in
      inr (record {
        start = w.start;
        from = w.from;
        found = found_before v0 v1 recovers rest w.start w.found;
        body = w.body;
        given = w.given;
        events = w.events;
        stop = w.stop;
        tied = record { tools = omega (arith, tools, w.tied.tools); disk = λ s e is. (let rose = w.tied.disk s e is in omega (arith, disk, rose)) };
        stops = w.stops;
        says = w.says;
        any_moment = leaves_then (IsOneOf opens root (before ++ states)) v0 v1 v2 (leaves_weaken (IsOneOf opens root before) (IsOneOf opens root (before ++ states)) v0 v1 (more_states before states) first) w.any_moment;
        at_end = w.at_end;
        others = record {
          any_moment = elsewhere_then (plan_of ring command w.body w.start w.events).changes v0 v1 v2 w.found.0 (found_before v0 v1 recovers rest w.start w.found).1 kept w.others.any_moment;
          at_end = w.others.at_end;
        };
        at_rest = w.at_rest;
      })

  -- a command that performs its plan
  pub went_performs : (ring : Ring) (command : Command) (input : Input) (body : Option Text) (before : List State) (start : State) (old new : Moment) (outcome : Outcome) (said : Said) → said ≡ said_of (subject_of command) outcome → Contains before start → IsAtRest root old.view → StandsFor opens root old.view.files start → IsGiven command input body → (said.status ≢ code DiskFailed → said.status ≢ code OutOfMemory → IsAtRest root new.view)
      → Performs (StandsFor opens root) root (plan_of ring command body start) start old new (just outcome) → Went opens root ring command input before old.view new.view old.faults new.faults said.status
  unfolding rest_left
  went_performs ring command input body before start old new outcome said told from rest stands given ends p = record {
    start = start;
    from = from;
    found = rest_left old.view start rest stands;
    body = body;
    given = given;
    events = p.events;
    stop = p.stop;
    tied = p.tied;
    stops = p.walks.stops;
    says = λ sink. ap (λ (s : Said). s.status) (told ∙ ap (λ (a : Answer). said_of (subject_of command) a.outcome) p.is);
    any_moment = leaves_weaken (IsPassed (StandsFor opens root) root start (states_up_to p.stop (plan_of ring command body start p.events))) (IsOneOf opens root (before ++ (states_up_to p.stop (plan_of ring command body start p.events)))) old.view new.view
        (passed_is_one before (states_up_to p.stop (plan_of ring command body start p.events)) start from) p.walks.goes.any_moment;
    at_end = p.walks.goes.at_end;
    others = record {
      any_moment = leaves_weaken (IsSameElsewhere root (plan_of ring command body start p.events).changes old.view.files) (IsOldOrElsewhere root (plan_of ring command body start p.events).changes old.view old.view.files) old.view new.view
          (λ m same. inr same) p.elsewhere.images;
      at_end = p.elsewhere.images.now;
    };
    at_rest = λ disk memory sink. ends disk memory;
  }

  -- and is printed: a status that is not that of a sink is that of the answer
  pub went_printed : (ring : Ring) (command : Command) (input : Input) (before : List State) (v0 v1 : View) (f0 f1 : Faults) (status printed : ℕ) → (printed ≢ code SinkFailed → printed ≡ status)
      → Went opens root ring command input before v0 v1 f0 f1 status → Went opens root ring command input before v0 v1 f0 f1 printed
  went_printed ring command input before v0 v1 f0 f1 status printed same w = record {
    start = w.start;
    from = w.from;
    found = w.found;
    body = w.body;
    given = w.given;
    events = w.events;
    stop = w.stop;
    tied = w.tied;
    stops = w.stops;
    says = λ sink. (let is = same sink in is ∙ w.says (λ e. sink (is ∙ e)));
    any_moment = w.any_moment;
    at_end = w.at_end;
    others = w.others;
    at_rest = λ disk memory sink. (let is = same sink in w.at_rest (λ e. disk (is ∙ e)) (λ e. memory (is ∙ e)) (λ e. sink (is ∙ e)));
  }
