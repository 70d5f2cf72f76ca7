-- From what a step says to what the run says.
use Rattle.std.proofs.Common.{◌≡◌, ◌≢◌, inl, inr, ℕ, zero, suc, ◌≤◌, List, [], ◌∷◌, ◌++◌, length, refl, sym, ◌∙◌, ap, subst, arith}
use Rattle.std.specs.Prelude.{Option, None, Some, Err}
use Rattle.std.specs.Option.{option_to_list}
use Rattle.gopass_base.specs.Text.{Text}
use Rattle.gopass_base.specs.Faults.{Rose}
use Rattle.disk_model.specs.Files.{Files}
use Rattle.pending_journal.specs.Redo.{RecoversTo}
use Rattle.pending_journal.specs.Faults.{RefusesVault}
use Rattle.pending_journal.specs.declared.fault.VaultFault.{VaultFault}
use Rattle.pending_journal.specs.declared.fault.VaultFault.TheVariants.{BadJournal, Disk as VaultDisk, NoMemory as VaultNoMemory}
use Rattle.cipher_port.specs.Tool.{Opens, Ring}
use Rattle.command_words.specs.declared.command.Command.{Command}
use Rattle.store_state.specs.declared.fault.StoreFault.{StoreFault}
use Rattle.store_state.specs.declared.fault.StoreFault.TheVariants.{BadFile, Full, Disk, NoMemory}
use Rattle.store_state.specs.Opening.{OpensStore}
use Rattle.store_state.specs.State.{State, StandsFor}
use Rattle.store_core.specs.Steps.{Answer, answer_up_to, just, stop_outcome}
use Rattle.store_core.specs.Plans.{Outcome, Plan}
use Rattle.gopass_cli.specs.declared.status.Status.TheVariants.{NoMemory as OutOfMemory}
use Rattle.gopass_cli.specs.Statuses.{code}
use Rattle.gopass_cli.specs.Said.{Said, said_of, stop_said, unsaid}
use Rattle.store_core.specs.Events.{Events, calm, failed_names, Cause, TheDisk, Memory, Stop}
use Rattle.store_core.specs.Moment.{Faults, Moment}
use Rattle.store_core.specs.Performs.{IsTied, Performs, RoseBy}
use Rattle.store_core.proofs.PerformLemmas.{calm_tied, stopped_tied}
use Rattle.command_words.specs.declared.command.Intake.{Intake}
use Rattle.command_words.specs.Takes.{takes}
use Rattle.request_body.specs.declared.body.BodyFault.{BodyFault}
use Rattle.request_body.specs.declared.body.BodyFault.TheVariants.{Missing, Long, Failed, NoMemory as NoBodyRoom}
use Rattle.request_body.specs.Bodies.{Input}
use Rattle.request_body.specs.Given.{IsLeft, IsNoBody, RefusedFor}
use Rattle.gopass_cli.specs.Requests.{SaysNoBody, SaysOfRequest, body_said}
use Rattle.gopass_cli.specs.Opening.{SaysOfCommand, fault_said, vault_said}
use Rattle.gopass_cli.specs.Replies.{Says}
use Rattle.gopass_cli.specs.Run.{SaidInRun, UpTo}

-- a stop before any step
abbrev early : Cause → Stop
early cause = record { cause = cause; steps = 0; commits = 0 }

module _ (S : Events → Said → Type 0) (old new : Faults) (later : old.tools ≤ new.tools) where
  pub runs_unsaid : (said : Said) → said ≡ unsaid → SaidInRun S old new said
  runs_unsaid said e = record { events = calm; stop = Some (early Memory); tied = (stopped_tied old new (early Memory) later (λ e. absurd (cc))).tied; says = e }

  -- this is meant where nothing failed
  pub runs_meant : (wanted said : Said) → S calm wanted → Says wanted said → SaidInRun S old new said
  runs_meant wanted said h (inl e) = record { events = calm; stop = None; tied = (calm_tied old new later).tied; says = subst (S calm) (sym e) h }
  runs_meant wanted said h (inr (own, e)) = runs_unsaid said e

  -- there was no memory at all
  pub runs_no_memory : (said : Said) → Says unsaid said → SaidInRun S old new said
  runs_no_memory said (inl e) = runs_unsaid said e
  runs_no_memory said (inr (own, e)) = runs_unsaid said e

  -- the disk failed
  pub runs_disk : (said : Said) → Rose old.disk new.disk → Says (stop_said TheDisk) said → SaidInRun S old new said
  runs_disk said rose (inl e) = record { events = calm; stop = Some (early TheDisk); tied = (stopped_tied old new (early TheDisk) later (λ e. rose)).tied; says = e }
  runs_disk said rose (inr (own, e)) = runs_unsaid said e

up_weaker : (stop : Option Stop) (P Q : Type 0) (said : Said) → (P → Q) → UpTo stop P said → UpTo stop Q said
up_weaker None P Q said so h = so h
up_weaker (Some stop) P Q said so h = h

pub runs_weaker : (S T : Events → Said → Type 0) (old new : Faults) (said : Said) → ((events : Events) → S events said → T events said) → SaidInRun S old new said → SaidInRun T old new said
runs_weaker S T old new said so p = record { events = p.events; stop = p.stop; tied = p.tied; says = up_weaker p.stop (S p.events said) (T p.events said) said (so p.events) p.says }

-- what is tied to a later start is tied to an earlier one
pub runs_later : (S : Events → Said → Type 0) (old mid new : Faults) (said : Said) → old.disk ≤ mid.disk → old.tools ≤ mid.tools → SaidInRun S mid new said → SaidInRun S old new said
runs_later S old mid new said disk tools p = record {
  events = p.events;
  stop = p.stop;
  tied = record { tools = omega (arith, tools, p.tied.tools); disk = λ s e is. (let rose = p.tied.disk s e is in omega (arith, disk, rose)) };
  says = p.says;
}

-- the same is said of a stop, whatever the subject
stop_says : (subject : Text) (cause : Cause) → said_of subject (stop_outcome cause) ≡ stop_said cause
stop_says subject TheDisk = refl
stop_says subject Memory = refl

up_to : (subject : Text) (stop : Option Stop) (plan : Plan State) (said : Said) → said ≡ said_of subject (answer_up_to stop plan).outcome → UpTo stop (said ≡ said_of subject plan.outcome) said
up_to subject None plan said e = e
up_to subject (Some stop) plan said e = e ∙ stop_says subject stop.cause

-- a command that performs its plan
pub runs_performs : (opens : Opens) (root subject : Text) (plan : Events → Plan State) (start : State) (old new : Moment) (outcome : Outcome) (said : Said) → said ≡ said_of subject outcome → Performs (StandsFor opens root) root plan start old new (just outcome)
    → SaidInRun (λ events said. said ≡ said_of subject (plan events).outcome) old.faults new.faults said
runs_performs opens root subject plan start old new outcome said says p = record {
  events = p.events;
  stop = p.stop;
  tied = p.tied;
  says = up_to subject p.stop (plan p.events) said (says ∙ ap (λ (a : Answer). said_of subject a.outcome) p.is);
}

-- ---- where nothing failed

none_rose : (old new n : ℕ) → RoseBy old n new → ¬ Rose old new → n ≡ 0
none_rose old new zero by kept = refl
none_rose old new (suc n) by kept = absurd (kept (omega (arith, by)))

calm_by : (refused : Option Text) (unread failed : List Text) → length (option_to_list refused ++ (unread ++ failed)) ≡ 0 → ◌≡◌ {A = Events} (record { refused = refused; unread = unread; failed = failed }) calm
calm_by None [] [] e = refl
calm_by None [] (name ∷ failed) e = absurd (omega (arith, e))
calm_by None (name ∷ unread) failed e = absurd (omega (arith, e))
calm_by (Some name) unread failed e = absurd (omega (arith, e))

said_by_none : (S : Events → Said → Type 0) (old new : Faults) (events : Events) (stop : Option Stop) (said : Said) → ¬ Rose old.disk new.disk → ¬ Rose old.tools new.tools → said.status ≢ code OutOfMemory
    → IsTied old new events stop → UpTo stop (S events said) said → S calm said
said_by_none S old new events None said disk tools had tied says =
    subst (λ (e : Events). S e said) (calm_by events.refused events.unread events.failed (none_rose old.tools new.tools (length (failed_names events)) tied.tools tools)) says
said_by_none S old new events (Some stop) said disk tools had tied says =
    absurd (no_stop (stop.cause) (λ e. disk (tied.disk stop refl e)) (λ e. had (ap (λ (s : Said). s.status) (says ∙ ap stop_said e))))
  where
    no_stop : (cause : Cause) → (cause ≡ TheDisk → ⊥) → (cause ≡ Memory → ⊥) → ⊥
    no_stop TheDisk d m = d refl
    no_stop Memory d m = m refl

pub said_calmly : (S : Events → Said → Type 0) (old new : Faults) (said : Said) → ¬ Rose old.disk new.disk → ¬ Rose old.tools new.tools → said.status ≢ code OutOfMemory → SaidInRun S old new said → S calm said
said_calmly S old new said disk tools had p = said_by_none S old new p.events p.stop said disk tools had p.tied p.says

-- ---- openings that are refused

-- by the store
pub runs_fault : (opens : Opens) (root : Text) (files after : Files) (input : Input) (same : IsLeft input) (ring : Ring) (command : Command) (old new : Faults) (fault : StoreFault) (said : Said) → old.tools ≤ new.tools → RecoversTo root files after → OpensStore root after (Err fault)
    → (fault ≡ Disk → Rose old.disk new.disk) → Says (fault_said fault) said → SaidInRun (SaysOfCommand opens root files input ring command) old new said
runs_fault opens root files after input same ring command old new (BadFile path line) said later redone refuses rose says =
    runs_meant (SaysOfCommand opens root files input ring command) old new later (fault_said (BadFile path line)) said (inr (inl (record { after = after; redone = redone; fault = BadFile path line; of_files = tt; refuses = refuses; says = refl }, same))) says
runs_fault opens root files after input same ring command old new (Full limit) said later redone refuses rose says =
    runs_meant (SaysOfCommand opens root files input ring command) old new later (fault_said (Full limit)) said (inr (inl (record { after = after; redone = redone; fault = Full limit; of_files = tt; refuses = refuses; says = refl }, same))) says
runs_fault opens root files after input same ring command old new Disk said later redone refuses rose says = runs_disk (SaysOfCommand opens root files input ring command) old new later said (rose refl) says
runs_fault opens root files after input same ring command old new NoMemory said later redone refuses rose says = runs_no_memory (SaysOfCommand opens root files input ring command) old new later said says

-- by the vault
pub runs_vault : (opens : Opens) (root : Text) (files : Files) (input : Input) (same : IsLeft input) (ring : Ring) (command : Command) (old new : Faults) (fault : VaultFault) (said : Said) → old.tools ≤ new.tools → RefusesVault root files fault
    → (fault ≡ VaultDisk → Rose old.disk new.disk) → Says (vault_said root fault) said → SaidInRun (SaysOfCommand opens root files input ring command) old new said
runs_vault opens root files input same ring command old new (BadJournal line) said later bad rose says =
    runs_meant (SaysOfCommand opens root files input ring command) old new later (vault_said root (BadJournal line)) said (inl (record { bad = bad.0; line = line; of_journal = bad.1; says = refl }, same)) says
runs_vault opens root files input same ring command old new VaultDisk said later refuses rose says = runs_disk (SaysOfCommand opens root files input ring command) old new later said (rose refl) says
runs_vault opens root files input same ring command old new VaultNoMemory said later refuses rose says = runs_no_memory (SaysOfCommand opens root files input ring command) old new later said says

-- ---- a body that is not given

-- there is none, the input is over its limit, or it failed
says_of_input : (taken : Option Intake) (input : Input) (fault : BodyFault) → RefusedFor taken input fault → (fault ≡ NoBodyRoom → ⊥) → SaysNoBody taken input (body_said fault)
says_of_input (Some intake) input Missing why other = inl (why, refl)
says_of_input (Some intake) input Long why other = inr (inl (why, refl))
says_of_input (Some intake) input Failed why other = inr (inr (why.0, why.1, refl))
says_of_input (Some intake) input NoBodyRoom why other = absurd (other refl)
says_of_input None input fault why other = absurd why

pub runs_no_body : (command : Command) (input : Input) (ring : Ring) (state : State) (old new : Faults) (fault : BodyFault) (said : Said) → old.tools ≤ new.tools → IsNoBody command input fault → Says (body_said fault) said
    → SaidInRun (SaysOfRequest command input ring state) old new said
runs_no_body command input ring state old new NoBodyRoom said later why says = runs_no_memory (SaysOfRequest command input ring state) old new later said says
runs_no_body command input ring state old new Missing said later why says = runs_meant (SaysOfRequest command input ring state) old new later (body_said Missing) said (inl (says_of_input (takes command) input Missing why (λ e. cc))) says
runs_no_body command input ring state old new Long said later why says = runs_meant (SaysOfRequest command input ring state) old new later (body_said Long) said (inl (says_of_input (takes command) input Long why (λ e. cc))) says
runs_no_body command input ring state old new Failed said later why says = runs_meant (SaysOfRequest command input ring state) old new later (body_said Failed) said (inl (says_of_input (takes command) input Failed why (λ e. cc))) says
