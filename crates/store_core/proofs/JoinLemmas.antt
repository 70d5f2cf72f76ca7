-- One plan performed after another.
use Rattle.std.proofs.Common.{◌≡◌, ⊎_elim, ◌+◌, ◌≤◌, List, ◌++◌, length, Option, Some, None, refl, ap, sym, ◌∙◌, subst, arith, length-append}
use Rattle.std.specs.Prelude.{IsFalse, Contains}
use Rattle.std.specs.Option.{option_or, option_to_list}
use Rattle.std.proofs.lemmas.List.Elements.{Contains-append_cases, Contains-append_left, Contains-append_right}
use Rattle.gopass_base.specs.Text.{Text}
use Rattle.gopass_base.specs.Faults.{Rose}
use Rattle.disk_model.specs.Files.{Files}
use Rattle.disk_model.proofs.RunLemmas.{leaves_then, leaves_weaken}
use Rattle.store_core.specs.Elsewhere.{IsSameElsewhere}
use Rattle.store_core.specs.Events.{Events, Stop, TheDisk, both, failed_names}
use Rattle.store_core.specs.Moment.{Faults, Moment}
use Rattle.store_core.specs.Plans.{Failed, Plan, Step, Told}
use Rattle.store_core.specs.Steps.{Answer, answer_up_to, cut_off, told_of}
use Rattle.store_core.specs.Performs.{KeepsElsewhere, Performs, Walks}
use Rattle.store_core.proofs.PerformLemmas.{no_stop, same_cause}
use Rattle.store_core.proofs.WalkLemmas.{cut_then, last_of, later, told_append, walks_then}

few_refused : (a b : Option Text) → length (option_to_list (option_or a b)) ≤ length (option_to_list a) + length (option_to_list b)
few_refused None b = omega arith
few_refused (Some x) b = omega arith

joined_few : (a b : Events) → length (failed_names (both a b)) ≤ length (failed_names a) + length (failed_names b)
joined_few a b = omega (
  arith,
  few_refused a.refused b.refused,
  length-append (option_to_list (option_or a.refused b.refused)) ((a.unread ++ b.unread) ++ (a.failed ++ b.failed)),
  length-append (a.unread ++ b.unread) (a.failed ++ b.failed),
  length-append a.unread b.unread,
  length-append a.failed b.failed,
  length-append (option_to_list a.refused) (a.unread ++ a.failed),
  length-append a.unread a.failed,
  length-append (option_to_list b.refused) (b.unread ++ b.failed),
  length-append b.unread b.failed,
)

-- what stays as it is elsewhere
keeps_then : (root : Text) (paths more all : List Text) (old mid new : Moment) → ((p : Text) → Contains paths p → Contains all p) → ((p : Text) → Contains more p → Contains all p) → IsFalse mid.stuck
    → KeepsElsewhere root paths old mid → KeepsElsewhere root more mid new → KeepsElsewhere root all old new
keeps_then root paths more all old mid new left right free first second = record {
  images = leaves_then (IsSameElsewhere root all old.view.files) old.view mid.view new.view
      (leaves_weaken (IsSameElsewhere root paths old.view.files) (IsSameElsewhere root all old.view.files) old.view mid.view (λ m (after, to, same). (after, to, λ other apart. same other (λ has. apart (left other has)))) first.images)
      (leaves_weaken (IsSameElsewhere root more mid.view.files) (IsSameElsewhere root all old.view.files) mid.view new.view
      (λ m (after, to, same). (after, to, λ other apart. same other (λ has. apart (right other has)) ∙ first.files free other (λ has. apart (left other has)))) second.images);
  files = λ f other apart. second.files f other (λ has. apart (right other has)) ∙ first.files free other (λ has. apart (left other has));
}

-- the stop of the second is that of both
disk_rose : {S : Type 0} (xs : List (Step S)) (stop : Option Stop) (old mid new : Faults) → old.disk ≤ mid.disk → ((s : Stop) → stop ≡ Some s → s.cause ≡ TheDisk → Rose mid.disk new.disk)
    → (s : Stop) → later xs stop ≡ Some s → s.cause ≡ TheDisk → Rose old.disk new.disk
disk_rose xs None old mid new le rose s e is = absurd (no_stop s e)
disk_rose xs (Some t) old mid new le rose s e is = (let up = rose t refl (same_cause _ s e ∙ is) in omega (arith, up, le))

-- both were performed, the first without a stop
module _ {S : Type 0} (Stands : Files → S → Type 0) (root : Text) (first second plan : Events → Plan S) (start : S) (old mid new : Moment) (one two : Answer) where
  pub performs_then : (p : Performs Stands root first start old mid one) → p.stop ≡ None → IsFalse mid.stuck → old.faults.disk ≤ mid.faults.disk
      → (here : S) → last_of start (first p.events).steps ≡ here → (q : Performs Stands root second here mid new two)
      → (plan (both p.events q.events)).steps ≡ (first p.events).steps ++ (second q.events).steps
      → (plan (both p.events q.events)).calls ≡ (first p.events).calls + (second q.events).calls
      → ((path : Text) → Contains (first p.events).changes path → Contains (plan (both p.events q.events)).changes path)
      → ((path : Text) → Contains (second q.events).changes path → Contains (plan (both p.events q.events)).changes path)
      → Performs Stands root plan start old new (answer_up_to (later (first p.events).steps q.stop) (plan (both p.events q.events)))
  performs_then p none free disk here at q steps calls left right =
      let xs = (first p.events).steps in
      let ys = (second q.events).steps in
      let walked = subst (λ (s : Option Stop). Walks Stands root start (first p.events) s old mid) none p.walks in
      let told_first : (name : Text) → Contains p.events.failed name → Contains (told_of xs) (name, Failed)
      = λ name has. subst (λ (s : Option Stop). Contains (told_of (cut_off s xs)) (name, Failed)) none (p.tells name has) in
      let told_both : told_of (cut_off (later xs q.stop) (xs ++ ys)) ≡ told_of xs ++ told_of (cut_off q.stop ys) = ap told_of (cut_then xs ys q.stop) ∙ told_append xs (cut_off q.stop ys) in
      record {
        events = both p.events q.events;
        stop = later xs q.stop;
        tied = record { tools = omega (arith, p.tied.tools, q.tied.tools, joined_few p.events q.events); disk = disk_rose xs q.stop old.faults mid.faults new.faults disk q.tied.disk };
        is = refl;
        tells = λ name has. subst (λ (l : List (Step S)). Contains (told_of (cut_off (later xs q.stop) l)) (name, Failed)) (sym steps) (subst (λ (l : Told). Contains l (name, Failed)) (sym told_both)
            (⊎_elim (λ l. Contains-append_left (told_of xs) (told_of (cut_off q.stop ys)) (name, Failed) (told_first name l)) (λ r. Contains-append_right (told_of xs) (told_of (cut_off q.stop ys)) (name, Failed) (q.tells name r))
            (Contains-append_cases p.events.failed q.events.failed name has)));
        walks = walks_then Stands root start (first p.events) (second q.events) (plan (both p.events q.events)) q.stop old mid new steps walked free (subst (λ (w : S). Walks Stands root w (second q.events) q.stop mid new) (sym at) q.walks);
        calls = omega (arith, p.calls, q.calls, calls);
        elsewhere = keeps_then root (first p.events).changes (second q.events).changes (plan (both p.events q.events)).changes old mid new left right free p.elsewhere q.elsewhere;
      }
