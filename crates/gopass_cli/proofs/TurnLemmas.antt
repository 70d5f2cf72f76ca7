-- From what a step of a command says to what the command performs.
use Rattle.std.proofs.Common.{◌≡◌, ◌⊎◌, inl, inr, ℕ, ◌+◌, ◌<◌, ◌≤◌, List, length, get_or, set, refl, sym, ◌∙◌, ap, subst, arith}
use Rattle.std.specs.Prelude.{[], IsFalse, Option, Result, Ok, Err, IfErr, sum_by}
use Rattle.std.proofs.lemmas.List.Elements.{All-set}
use Rattle.std.proofs.lemmas.List.Sums.{sum_by-set, get_or-le-sum_by}
use Rattle.gopass_base.specs.Text.{Text}
use Rattle.disk_model.specs.declared.disk.Disk.{Ghosts}
use Rattle.cipher_port.specs.Tool.{Opens, Ring, ToolMeaning}
use Rattle.store_core.specs.Steps.{just}
use Rattle.store_core.specs.declared.store.Store.{Store}
use Rattle.pending_journal.specs.Redo.{IsAtRest}
use Rattle.store_state.specs.State.{State, StandsFor}
use Rattle.store_core.specs.Plans.{Outcome, Refused, Plan, answers, outcome_by}
use Rattle.store_core.specs.Refusals.{IsAbout}
use Rattle.store_core.specs.declared.refusal.Refusal.{Refusal}
use Rattle.store_core.specs.declared.refusal.Refusal.TheVariants.{NotFound, Tool, Disk, NoMemory}
use Rattle.store_core.specs.Events.{Events, calm, Memory}
use Rattle.store_core.specs.Moment.{Moment, Tools, all_tools, moment_of, one_tool}
use Rattle.store_core.specs.Does.{Does, Keeps}
use Rattle.store_core.specs.Performs.{Performs}
use Rattle.store_core.proofs.PerformLemmas.{still_same, calm_tied, quiet, quiet_stop, wants_memory}
use Rattle.command_words.specs.declared.command.Command.{Command}
use Rattle.gopass_cli.specs.declared.action.Action.{Action}
use Rattle.gopass_cli.specs.Actions.{action_of, subject_by, subject_of}
use Rattle.gopass_cli.specs.Plan.{body_in, calls_by, most_calls, plan_by, plan_of}
use Rattle.gopass_cli.specs.Said.{Said, said_of, unsaid}
use Rattle.gopass_cli.specs.Outcomes.{ComesTo, IsInner, Concerns}
use Rattle.gopass_cli.specs.Replies.{Turned, IsInnerStatus, Says, said_in}
use Rattle.gopass_cli.specs.declared.reply.Reply.{Reply}

-- ---- from one tool to all of them

-- the moment with these counts of faults and calls of the tools
abbrev pub with_tools : Moment → (faults calls : ℕ) → Moment
with_tools m faults calls = record m { faults = record { disk = m.faults.disk; tools = faults }; calls = calls }

pub lifts : (opens : Opens) (root : Text) (plan : Events → Plan State) (start : State) (old new : Moment) (outcome : Outcome) (a b A B c d C D : ℕ) → A + b ≡ B + a → a ≤ A → C + d ≡ D + c → c ≤ C
    → Performs (StandsFor opens root) root plan start (with_tools old a c) (with_tools new b d) (just outcome) → Performs (StandsFor opens root) root plan start (with_tools old A C) (with_tools new B D) (just outcome)
lifts opens root plan start old new outcome a b A B c d C D more least calls few p = record {
  events = p.events;
  stop = p.stop;
  tied = record { tools = omega (arith, more, least, p.tied.tools); disk = p.tied.disk };
  is = p.is;
  tells = p.tells;
  walks = record {
    stops = p.walks.stops;
    goes = record { within = p.walks.goes.within; counted = p.walks.goes.counted; state = p.walks.goes.state; any_moment = p.walks.goes.any_moment; at_end = p.walks.goes.at_end; still = p.walks.goes.still };
  };
  calls = omega (arith, calls, few, p.calls);
  elsewhere = record { images = p.elsewhere.images; files = p.elsewhere.files };
}

-- ---- what there was no memory for

-- it comes to this, or the command wanted memory behind it
pub performs_comes : (opens : Opens) (root : Text) (plan : Events → Plan State) (start : State) (old new : Moment) (wanted outcome : Outcome) → Performs (StandsFor opens root) root plan start old new (just wanted) → ComesTo wanted outcome → Performs (StandsFor opens root) root plan start old new (just outcome)
performs_comes opens root plan start old new wanted outcome p (inl e) = subst (λ (o : Outcome). Performs (StandsFor opens root) root plan start old new (just o)) (sym e) p
performs_comes opens root plan start old new wanted outcome p (inr e) = subst (λ (o : Outcome). Performs (StandsFor opens root) root plan start old new (just o)) (sym e) (wants_memory (StandsFor opens root) root start plan old new (just wanted) p)

module _ (opens : Opens) (root : Text) (plan : Events → Plan State) (start : State) (now : Moment) (stands : StandsFor opens root now.view.files start) (rest : IsAtRest root now.view) where
  -- there was no memory at the start
  pub wants_first : Performs (StandsFor opens root) root plan start now now (just (Refused NoMemory))
  wants_first = quiet_stop (StandsFor opens root) root start plan now now stands (still_same root now rest) Memory (λ e. absurd (cc)) (omega arith)

  -- a command that changes nothing and calls no tool
  pub only_answers : (wanted outcome : Outcome) → plan calm ≡ answers wanted → ComesTo wanted outcome → Performs (StandsFor opens root) root plan start now now (just outcome)
  only_answers wanted outcome is comes = performs_comes opens root plan start now now wanted outcome
      (quiet (StandsFor opens root) root start plan now now stands (still_same root now rest) calm wanted 0 (calm_tied now.faults now.faults (omega arith)) (omega arith) is) comes

-- ---- the first of the tools is called

module _ {D C : Type 0} {G : Ghosts D} (meaning : ToolMeaning C) (old new : Store D G) (tools : List C) (tool now : C) (some : 0 < length tools) (first : tool ≡ get_or tools 0 tool) where
  sum_moves : (f : C → ℕ) → sum_by f tools + f now ≡ sum_by f (set tools 0 now) + f tool
  sum_moves f = sym (sum_by-set f tools 0 now tool some) ∙ ap (λ t. sum_by f (set tools 0 now) + f t) (sym first)

  sum_has : (f : C → ℕ) → f tool ≤ sum_by f tools
  sum_has f = subst (λ (t : C). f t ≤ sum_by f tools) (sym first) (get_or-le-sum_by f tools 0 tool some)

  pub lifts_performs : (opens : Opens) (root : Text) (plan : Events → Plan State) (start : State) (outcome : Outcome) → Performs (StandsFor opens root) root plan start (moment_of old (one_tool meaning tool)) (moment_of new (one_tool meaning now)) (just outcome)
      → Performs (StandsFor opens root) root plan start (moment_of old (all_tools meaning tools)) (moment_of new (all_tools meaning (set tools 0 now))) (just outcome)
  lifts_performs opens root plan start outcome p = lifts opens root plan start (moment_of old (one_tool meaning tool)) (moment_of new (one_tool meaning now)) outcome
      (meaning.faults tool) (meaning.faults now) (sum_by meaning.faults tools) (sum_by meaning.faults (set tools 0 now)) (meaning.calls tool) (meaning.calls now) (sum_by meaning.calls tools) (sum_by meaning.calls (set tools 0 now))
      (sum_moves meaning.faults) (sum_has meaning.faults) (sum_moves meaning.calls) (sum_has meaning.calls) p

  pub lifts_does : (plan : Ring → State → Events → Plan State) (outcome : Outcome) → Does plan old new (one_tool meaning tool) (one_tool meaning now) (just outcome) → Does plan old new (all_tools meaning tools) (all_tools meaning (set tools 0 now)) (just outcome)
  lifts_does plan outcome does told tells ring have start s =
      lifts_performs meaning.opens old.vault.root (plan ring start) start outcome (does told tells ring (subst (λ (t : C). meaning.ring t ≡ ring) (sym first) (have 0 tool some)) start s)

  pub lifts_keeps : (most : ℕ) (outcome : Outcome) → Keeps most old new (one_tool meaning tool) (one_tool meaning now) outcome → Keeps most old new (all_tools meaning tools) (all_tools meaning (set tools 0 now)) outcome
  lifts_keeps most outcome k = record {
    causes = record {
      tools = record {
        later = omega (arith, sum_moves meaning.faults, sum_has meaning.faults, k.causes.tools.later);
        failed = λ e. (let rose = k.causes.tools.failed e in omega (arith, sum_moves meaning.faults, sum_has meaning.faults, rose));
        stays = λ other. (let same = k.causes.tools.stays other in omega (arith, sum_moves meaning.faults, sum_has meaning.faults, same));
      };
      disk = k.causes.disk;
    };
    calls = omega (arith, sum_moves meaning.calls, sum_has meaning.calls, k.calls);
    free = k.free;
    root = k.root;
    rings = λ ring have. All-set (λ t. meaning.ring t ≡ ring) tools 0 now (k.rings ring (ap meaning.ring first ∙ have 0 tool some)) have;
  }

-- ---- what is told

-- a refusal about a name, as an outcome
pub about_by : {T : Type 0} (name : Text) (printed : T → Text) (answer : Result T Refusal) → IfErr answer (IsAbout name) → Concerns name (outcome_by printed answer)
about_by name printed (Ok x) about = tt
about_by name printed (Err refusal) about = about

-- an outcome whose status tells no fault of the outside tells none
inner_status : (subject : Text) (outcome : Outcome) → IsInnerStatus (said_of subject outcome).status → IsInner outcome
inner_status subject outcome own = record {
  no_tool = λ name e. own.no_tool (ap (λ (o : Outcome). (said_of subject o).status) e);
  no_disk = λ e. own.no_disk (ap (λ (o : Outcome). (said_of subject o).status) e);
}

-- what holds of an outcome that tells no fault holds of want of memory in its place
keeps_memory : {D : Type 0} {G : Ghosts D} (most : ℕ) (old new : Store D G) (before after : Tools) (outcome : Outcome) → Keeps most old new before after outcome → IsInner outcome → Keeps most old new before after (Refused NoMemory)
keeps_memory most old new before after outcome k own = record {
  causes = record {
    tools = record {
      later = k.causes.tools.later;
      failed = λ (name, is). absurd (other_fault (Tool name) is (λ e. cc));
      stays = λ _. k.causes.tools.stays (λ (name, is). own.no_tool name is);
    };
    disk = record {
      later = k.causes.disk.later;
      failed = λ is. absurd (other_fault Disk is (λ e. cc));
      stays = λ _. k.causes.disk.stays own.no_disk;
      once = k.causes.disk.once;
    };
  };
  calls = k.calls;
  free = λ disk memory. absurd (memory refl);
  root = k.root;
  rings = k.rings;
}
  where
    why : Outcome → Refusal
    why (Refused refusal) = refusal
    why _ = NotFound

    other_fault : (refusal : Refusal) → Refused NoMemory ≡ Refused refusal → (NoMemory ≡ refusal → ⊥) → ⊥
    other_fault refusal is other = other (ap why is)

-- a reply that says what a command came to, or that there was no memory for it
pub turned_says : {D : Type 0} {G : Ghosts D} (plan : Ring → State → Events → Plan State) (most : ℕ) (subject : Text) (old new : Store D G) (before after : Tools) (outcome : Outcome) (reply : Reply)
    → Does plan old new before after (just outcome) → Keeps most old new before after outcome → Says (said_of subject outcome) (said_in reply) → Turned plan most subject old new before after reply
turned_says plan most subject old new before after outcome reply does keeps (inl e) = record { outcome = outcome; planned = does; keeps = keeps; says = e }
turned_says plan most subject old new before after outcome reply does keeps (inr (own, e)) = record {
  outcome = Refused NoMemory;
  planned = λ told tells ring have start s. wants_memory (StandsFor before.opens old.vault.root) old.vault.root start (plan ring start) (moment_of old before) (moment_of new after) (just outcome) (does told tells ring have start s);
  keeps = keeps_memory most old new before after outcome keeps (inner_status subject outcome own);
  says = e;
}

-- where nothing was asked, an outcome that tells no fault of the outside has its causes
pub keeps_same : {D : Type 0} {G : Ghosts D} (most : ℕ) (store : Store D G) (tools : Tools) (outcome : Outcome) → IsFalse store.vault.stuck → IsInner outcome → Keeps most store store tools tools outcome
keeps_same most store tools outcome free own = record {
  causes = record {
    tools = record { later = omega arith; failed = λ (name, is). absurd (own.no_tool name is); stays = λ _. refl };
    disk = record { later = omega arith; failed = λ is. absurd (own.no_disk is); stays = λ _. refl; once = omega arith };
  };
  calls = omega arith;
  free = λ _ _. free;
  root = refl;
  rings = λ ring have. have;
}

-- a command of which a word names nothing, or for the words of which there was no memory
pub turned_misread : {D : Type 0} {G : Ghosts D} (command : Command) (body : Option Text) (store : Store D G) (tools : Tools) (outcome : Outcome) (reply : Reply)
    → (G.meaning.tells → IsAtRest store.vault.root (G.meaning.view store.vault.disk)) → IsFalse store.vault.stuck → IsInner outcome
    → (outcome ≡ Refused NoMemory) ⊎ (action_of command ≡ Err outcome) → Says (said_of [] outcome) (said_in reply)
    → Turned (λ ring. plan_of ring command body) (most_calls command) (subject_of command) store store tools tools reply
turned_misread {G = G} command body store tools outcome reply rest free own (inl none) says = record {
  outcome = Refused NoMemory;
  planned = λ told tells ring have start s. wants_first tools.opens store.vault.root (plan_of ring command body start) start (moment_of store tools) s (rest told);
  keeps = keeps_same (most_calls command) store tools (Refused NoMemory) free (subst IsInner none own);
  says = no_memory_said (said_in reply) (subst (λ (o : Outcome). Says (said_of [] o) (said_in reply)) none says);
}
  where
    no_memory_said : (said : Said) → Says unsaid said → said ≡ unsaid
    no_memory_said said (inl e) = e
    no_memory_said said (inr (_, e)) = e
turned_misread {G = G} command body store tools outcome reply rest free own (inr bad) says =
    subst (λ (read : Result Action Outcome). Turned (λ ring. plan_by ring read (body_in body)) (calls_by read) (subject_by read) store store tools tools reply) (sym bad)
    (turned_says (λ ring. plan_by ring (Err outcome) (body_in body)) 0 [] store store tools tools outcome reply
    (λ told tells ring have start s. only_answers tools.opens store.vault.root (plan_by ring (Err outcome) (body_in body) start) start (moment_of store tools) s (rest told) outcome outcome refl (inl refl))
    (keeps_same 0 store tools outcome free own) says)
