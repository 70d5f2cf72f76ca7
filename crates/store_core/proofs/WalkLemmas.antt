-- Steps that are gone through one after the other.
use Rattle.std.proofs.Common.{◌≡◌, inl, inr, ℕ, zero, suc, ◌+◌, ◌≤◌, List, [], ◌∷◌, ◌++◌, length, take, Option, Some, None, refl, ap, sym, ◌∙◌, subst, arith, append_assoc, length-append}
use Rattle.std.specs.Prelude.{IsFalse}
use Rattle.std.specs.Option.{option_to_list}
use Rattle.gopass_base.specs.Text.{Text}
use Rattle.disk_model.specs.Files.{Files}
use Rattle.disk_model.proofs.RunLemmas.{leaves_then, leaves_weaken, rests_then}
use Rattle.store_core.specs.Events.{Stop}
use Rattle.store_core.specs.Moment.{Moment}
use Rattle.store_core.specs.Plans.{Plan, Step}
use Rattle.store_core.specs.Steps.{IsStopIn, answered, cut_off, known, states_of, told_of}
use Rattle.store_core.specs.Performs.{Goes, IsPassed, IsReached, LeftFor, Walks, state_at}

pub states_append : {S : Type 0} (xs ys : List (Step S)) → states_of (xs ++ ys) ≡ states_of xs ++ states_of ys
states_append [] ys = refl
states_append {S} (x ∷ xs) ys = ap (λ (l : List S). option_to_list x.state ++ l) (states_append xs ys) ∙ sym (append_assoc (option_to_list x.state) (states_of xs) (states_of ys))

pub told_append : {S : Type 0} (xs ys : List (Step S)) → told_of (xs ++ ys) ≡ told_of xs ++ told_of ys
told_append [] ys = refl
told_append (x ∷ xs) ys = ap (λ l. x.told ++ l) (told_append xs ys) ∙ sym (append_assoc x.told (told_of xs) (told_of ys))

take_past : {A : Type 0} (xs ys : List A) (b : ℕ) → take (length xs + b) (xs ++ ys) ≡ xs ++ take b ys
take_past [] ys b = (let none : 0 + b ≡ b = omega arith in ap (λ k. take k ys) none)
take_past {A} (x ∷ xs) ys b = (let more : suc (length xs) + b ≡ suc (length xs + b) = omega arith in ap (λ k. take k (x ∷ (xs ++ ys))) more ∙ ap (λ (l : List A). x ∷ l) (take_past xs ys b))

at_front : {S : Type 0} (s : S) (xs ys : List S) (n : ℕ) → n ≤ length xs → state_at s (xs ++ ys) n ≡ state_at s xs n
at_front s xs ys zero le = refl
at_front s [] ys (suc n) le = absurd (omega (arith, le))
at_front s (x ∷ xs) ys (suc n) le = at_front x xs ys n (omega (arith, le))

at_back : {S : Type 0} (s : S) (xs ys : List S) (n : ℕ) → state_at s (xs ++ ys) (length xs + n) ≡ state_at (state_at s xs (length xs)) ys n
at_back s [] ys n = (let none : 0 + n ≡ n = omega arith in ap (λ k. state_at s ys k) none)
at_back s (x ∷ xs) ys n = (let more : suc (length xs) + n ≡ suc (length xs + n) = omega arith in ap (λ k. state_at s (x ∷ (xs ++ ys)) k) more ∙ at_back x xs ys n)

module _ {S : Type 0} (Stands : Files → S → Type 0) (root : Text) (start : S) (xs ys : List S) (m : ℕ) (old mid new : Moment) (first : Goes Stands root start xs (length xs) old mid) (free : IsFalse mid.stuck)
    (second : Goes Stands root (state_at start xs (length xs)) ys m mid new) where
  front : (files : Files) → IsPassed Stands root start xs files → IsPassed Stands root start (xs ++ ys) files
  front files (n, le, left) = (n, omega (arith, le, length-append xs ys), subst (λ (w : S). LeftFor Stands root w files) (sym (at_front start xs ys n le)) left)

  back : (files : Files) → IsPassed Stands root (state_at start xs (length xs)) ys files → IsPassed Stands root start (xs ++ ys) files
  back files (n, le, left) = (length xs + n, omega (arith, le, length-append xs ys), subst (λ (w : S). LeftFor Stands root w files) (sym (at_back start xs ys n)) left)

  reached : (files : Files) → IsReached Stands root (state_at start xs (length xs)) ys m files → IsReached Stands root start (xs ++ ys) (length xs + m) files
  reached files (inl left) = inl (subst (λ (w : S). LeftFor Stands root w files) (sym (at_back start xs ys m)) left)
  reached files (inr (lt, left)) =
      let next : length xs + (m + 1) ≡ length xs + m + 1 = omega arith in
      inr (omega (arith, lt, length-append xs ys), subst (λ (w : S). LeftFor Stands root w files) (sym (at_back start xs ys (m + 1)) ∙ ap (λ n. state_at start (xs ++ ys) n) next) left)

  -- states that were all passed, and then others
  pub goes_then : Goes Stands root start (xs ++ ys) (length xs + m) old new
  goes_then = record {
    within = omega (arith, second.within, length-append xs ys);
    counted = record { least = omega (arith, first.counted.least, second.counted.least); most = omega (arith, first.counted.most, second.counted.most) };
    state = λ f. subst (λ (w : S). Stands new.view.files w) (sym (at_back start xs ys m)) (second.state f);
    any_moment = leaves_then (IsPassed Stands root start (xs ++ ys)) old.view mid.view new.view
        (leaves_weaken (IsPassed Stands root start xs) (IsPassed Stands root start (xs ++ ys)) old.view mid.view front first.any_moment)
        (leaves_weaken (IsPassed Stands root (state_at start xs (length xs)) ys) (IsPassed Stands root start (xs ++ ys)) mid.view new.view back second.any_moment);
    at_end = λ files im. reached files (second.at_end files im);
    still = λ e f. rests_then old.view mid.view new.view (first.still (omega (arith, e)) free) (second.still (omega (arith, e)) f);
  }

-- the stop of what comes later, counted from the start
abbrev pub later : {S : Type 0} → List (Step S) → Option Stop → Option Stop
later xs None = None
later xs (Some stop) = Some (record { cause = stop.cause; steps = length xs + stop.steps; commits = length (states_of xs) + stop.commits })

pub cut_then : {S : Type 0} (xs ys : List (Step S)) (stop : Option Stop) → cut_off (later xs stop) (xs ++ ys) ≡ xs ++ cut_off stop ys
cut_then xs ys None = refl
cut_then xs ys (Some stop) = take_past xs ys stop.steps

answered_then : {S : Type 0} (xs ys : List (Step S)) (stop : Option Stop) → answered (later xs stop) (xs ++ ys) ≡ length (states_of xs) + answered stop ys
answered_then {S} xs ys None = ap (λ (l : List S). length l) (states_append xs ys) ∙ length-append (states_of xs) (states_of ys)
answered_then xs ys (Some stop) = refl

known_then : {S : Type 0} (xs ys : List (Step S)) (stop : Option Stop) → known (later xs stop) (xs ++ ys) ≡ length xs + known stop ys
known_then xs ys None = length-append xs ys
known_then xs ys (Some stop) = refl

-- the state after all of the steps
abbrev pub last_of : {S : Type 0} → S → List (Step S) → S
last_of start steps = state_at start (states_of steps) (length (states_of steps))

-- the steps of one plan were all gone through, and then those of another, up to a stop
pub walks_then : {S : Type 0} (Stands : Files → S → Type 0) (root : Text) (start : S) (first second plan : Plan S) (stop : Option Stop) (old mid new : Moment) → plan.steps ≡ first.steps ++ second.steps
    → Walks Stands root start first None old mid → IsFalse mid.stuck → Walks Stands root (last_of start first.steps) second stop mid new → Walks Stands root start plan (later first.steps stop) old new
walks_then {S} Stands root start first second plan stop old mid new steps one free two =
    let xs = first.steps in
    let ys = second.steps in
    let states_are : states_of (cut_off (later xs stop) (xs ++ ys)) ≡ states_of xs ++ states_of (cut_off stop ys) = ap states_of (cut_then xs ys stop) ∙ states_append xs (cut_off stop ys) in
    let joined = goes_then Stands root start (states_of xs) (states_of (cut_off stop ys)) (answered stop ys) old mid new one.goes free two.goes in
    let stops : IsStopIn (later xs stop) (xs ++ ys) = record {
      within = omega (arith, two.stops.within, known_then xs ys stop, length-append xs ys);
      one_open = omega (arith, two.stops.one_open, answered_then xs ys stop, ap (λ (l : List S). length l) states_are, length-append (states_of xs) (states_of (cut_off stop ys)));
    } in
    let goes = subst (λ (l : List S). Goes Stands root start l (answered (later xs stop) (xs ++ ys)) old new) (sym states_are)
    (subst (λ n. Goes Stands root start (states_of xs ++ states_of (cut_off stop ys)) n old new) (sym (answered_then xs ys stop)) joined) in
    record {
      stops = subst (λ (l : List (Step S)). IsStopIn (later xs stop) l) (sym steps) stops;
      goes = subst (λ (l : List (Step S)). Goes Stands root start (states_of (cut_off (later xs stop) l)) (answered (later xs stop) l) old new) (sym steps) goes;
    }
