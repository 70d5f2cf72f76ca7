-- How runs after one another keep the crash promise.
use Rattle.std.proofs.Common.{◌≡◌, inl, inr, ⊎_elim, ℕ, zero, suc, ◌+◌, ◌<◌, List, [], ◌∷◌, ◌++◌, length, take, Option, Some, None, refl, sym, ◌∙◌, ap, subst, arith}
use Rattle.std.specs.Prelude.{Contains}
use Rattle.std.specs.Option.{option_to_list}
use Rattle.std.proofs.lemmas.List.Elements.{Contains-append_left, Contains-append_right, Contains-append_cases}
use Rattle.gopass_base.specs.Text.{Text}
use Rattle.gopass_base.proofs.ListLemmas.{here, later}
use Rattle.disk_model.specs.Files.{Files}
use Rattle.disk_model.specs.Disk.{View, DiskMeaning, IsSound}
use Rattle.disk_model.specs.Runs.{Leaves}
use Rattle.disk_model.proofs.RunLemmas.{leaves_weaken}
use Rattle.pending_journal.specs.Redo.{RecoversTo}
use Rattle.pending_journal.specs.Recovery.{IsOldOrAlike}
use Rattle.pending_journal.proofs.PlanLemmas.{one_meaning}
use Rattle.store_core.specs.Steps.{answered, states_of, states_up_to}
use Rattle.store_core.specs.Elsewhere.{IsSameElsewhere}
use Rattle.cipher_port.specs.Tool.{Opens}
use Rattle.store_state.specs.State.{State, StandsFor}
use Rattle.store_core.specs.Performs.{IsReached, state_at}
use Rattle.gopass_cli.specs.Plan.{plan_of}
use Rattle.gopass_cli.specs.Safe.{IsOneOf, IsOldOrElsewhere, StandsForOne}
use Rattle.gopass_cli.proofs.SafeLemmas.{start_or}
use Rattle.gopass_cli.proofs.KeptLemmas.{plan_kept}
use Rattle.store_core.specs.Kept.{IsKept, AreAllKept}
use Rattle.store_core.specs.Plans.{Plan, Step}
use Rattle.store_core.specs.Events.{Stop}
use Rattle.gopass_cli.specs.History.{Run, IsKeptBy, History, begun, handed_back, crashed, stopped, next_after, found_after, found_during, changed_by, changes_of, first_disk}

-- the next state stands behind
next_has : (start : State) (states : List State) (n : ℕ) → n < length states → Contains (next_after states n) (state_at start states (suc n))
next_has start [] n lt = absurd (omega (arith, lt))
next_has start (s ∷ states) zero lt = here s []
next_has start (s ∷ states) (suc n) lt = next_has s states n (omega (arith, lt))

suc_one : (n : ℕ) → suc n ≡ n + 1
suc_one n = omega arith

-- a state that stands behind the n-th is one of them
next_in : (states : List State) (n : ℕ) (q : State) → Contains (next_after states n) q → Contains states q
next_in [] n q has = has
next_in (s ∷ states) zero q (zero, lt, is) = (0, omega arith, is)
next_in (s ∷ states) zero q (suc k, lt, is) = absurd (omega (arith, lt))
next_in (s ∷ states) (suc n) q has = later s states q (next_in states n q has)

take_has : (n : ℕ) (steps : List (Step State)) (q : State) → Contains (states_of (take n steps)) q → Contains (states_of steps) q
take_has zero steps q (k, lt, is) = absurd (omega (arith, lt))
take_has (suc n) [] q has = has
take_has (suc n) (step ∷ steps) q has = elim (Contains-append_cases (option_to_list step.state) (states_of (take n steps)) q has) [
  | inl one ↦ Contains-append_left (option_to_list step.state) (states_of steps) q one
  | inr more ↦ Contains-append_right (option_to_list step.state) (states_of steps) q (take_has n steps q more)
]

-- what is left of a plan that was cut off is of the plan
cut_has : (plan : Plan State) (stop : Option Stop) (q : State) → Contains (states_up_to stop plan) q → Contains (states_of plan.steps) q
cut_has plan None q has = has
cut_has plan (Some stop) q has = take_has stop.steps plan.steps q has

head_kept : (s : State) (states : List State) → IsKept s → AreAllKept states → AreAllKept (s ∷ states)
head_kept s states kept all q (zero, lt, is) = subst (λ (t : State). IsKept t) is kept
head_kept s states kept all q (suc k, lt, is) = all q (k, omega (arith, lt), is)

module _ (opens : Opens) (root : Text) where
  -- what is reached is found
  reached_found : (start : State) (states : List State) (n : ℕ) (m : Files) → IsReached (StandsFor opens root) root start states n m → IsOneOf opens root (state_at start states n ∷ next_after states n) m
  reached_found start states n m (inl left) = (state_at start states n, here (state_at start states n) (next_after states n), left)
  reached_found start states n m (inr (lt, left)) = (
    state_at start states (n + 1),
    later (state_at start states n) (next_after states n) (state_at start states (n + 1))
        (subst (λ (k : ℕ). Contains (next_after states n) (state_at start states k)) (suc_one n) (next_has start states n lt)),
    left,
  )

  after_found : (run : Run) (before : List State) (old new : View) (kept : IsKeptBy opens root run before old new) → StandsForOne opens root (found_after opens root run before old new kept) new
  after_found run before old new (inl none) = none.any_moment.now
  after_found run before old new (inr (command, asked, went)) = λ m im.
      reached_found went.start (states_up_to went.stop (plan_of run.ring command went.body went.start went.events)) (answered went.stop (plan_of run.ring command went.body went.start went.events).steps) m (went.at_end m im)

  -- what a crash at any moment left, from the start on
  since_start : (P : Files → Type 0) (old new : View) → IsSound old → ((m : Files) → old.images m → P m) → Leaves P old new → (m : Files) → new.left_since old.moment m → P m
  since_start P old new sound first run m left = ⊎_elim (λ was. first m (sound.only_now m was)) (λ is. is) (run.during old.moment m (omega arith) left)

  during_found : (run : Run) (before : List State) (old new : View) → IsSound old → StandsForOne opens root before old → (kept : IsKeptBy opens root run before old new)
      → (m : Files) → new.left_since old.moment m → IsOneOf opens root (found_during opens root run before old new kept) m
  during_found run before old new sound stand (inl none) m left = since_start (IsOneOf opens root before) old new sound stand none.any_moment m left
  during_found run before old new sound stand (inr (command, asked, went)) m left =
      let passed = states_up_to went.stop (plan_of run.ring command went.body went.start went.events) in
      since_start (IsOneOf opens root (before ++ passed)) old new sound (λ n im. (let first = stand n im in (first.0, Contains-append_left before passed first.0 first.1, first.2))) went.any_moment m left

  pub history_found : {D : Type 0} (disks : DiskMeaning D) → ((disk : D) → IsSound (disks.view disk)) → (first states : List State) (disk : D) → History disks opens root first states disk → StandsForOne opens root states (disks.view disk)
  history_found disks sound first states disk (begun now stand) = stand
  history_found disks sound first states disk (handed_back before old new run kept past) = after_found run before (disks.view old) (disks.view new) kept
  history_found disks sound first states disk (crashed before old new left run kept files past was stands) = λ m im.
      subst (IsOneOf opens root (found_during opens root run before (disks.view old) (disks.view new) kept)) (sym (stands.only m im))
      (during_found run before (disks.view old) (disks.view new) (sound old) (history_found disks sound first before old past) kept files was)
  history_found disks sound first states disk (stopped before old left files past image stands) = λ m im.
      subst (IsOneOf opens root before) (sym (stands.only m im)) (history_found disks sound first before old past files image)

  -- ---- each secret stays made for its ids

  went_kept : (plan : Plan State) (stop : Option Stop) (start : State) (before : List State) → AreAllKept before → Contains before start → AreAllKept (states_of plan.steps) → AreAllKept (state_at start (states_up_to stop plan) (answered stop plan.steps) ∷ next_after (states_up_to stop plan) (answered stop plan.steps))
  went_kept plan stop start before kept from all = head_kept (state_at start (states_up_to stop plan) (answered stop plan.steps)) (next_after (states_up_to stop plan) (answered stop plan.steps))
      (elim (start_or start (states_up_to stop plan) (answered stop plan.steps)) [
        | inl same ↦ subst (λ (s : State). IsKept s) (sym same) (kept start from)
        | inr has ↦ all (state_at start (states_up_to stop plan) (answered stop plan.steps)) (cut_has plan stop (state_at start (states_up_to stop plan) (answered stop plan.steps)) has)
      ])
      (λ s has. all s (cut_has plan stop s (next_in (states_up_to stop plan) (answered stop plan.steps) s has)))

  after_kept : (run : Run) (before : List State) (old new : View) (kept : IsKeptBy opens root run before old new) → AreAllKept before → AreAllKept (found_after opens root run before old new kept)
  after_kept run before old new (inl none) first = first
  after_kept run before old new (inr (command, asked, went)) first =
      went_kept (plan_of run.ring command went.body went.start went.events) went.stop went.start before first went.from (plan_kept run.ring command went.body went.start went.events (first went.start went.from))

  during_kept : (run : Run) (before : List State) (old new : View) (kept : IsKeptBy opens root run before old new) → AreAllKept before → AreAllKept (found_during opens root run before old new kept)
  during_kept run before old new (inl none) first = first
  during_kept run before old new (inr (command, asked, went)) first = λ s has.
      elim (Contains-append_cases before (states_up_to went.stop (plan_of run.ring command went.body went.start went.events)) s has) [
        | inl was ↦ first s was
        | inr is ↦ plan_kept run.ring command went.body went.start went.events (first went.start went.from) s (cut_has (plan_of run.ring command went.body went.start went.events) went.stop s is)
      ]

  pub history_kept : {D : Type 0} (disks : DiskMeaning D) (first states : List State) (disk : D) → History disks opens root first states disk → AreAllKept first → AreAllKept states
  history_kept disks first states disk (begun now stand) all = all
  history_kept disks first states disk (handed_back before old new run kept past) all = after_kept run before (disks.view old) (disks.view new) kept (history_kept disks first before old past all)
  history_kept disks first states disk (crashed before old new left run kept files past was stands) all = during_kept run before (disks.view old) (disks.view new) kept (history_kept disks first before old past all)
  history_kept disks first states disk (stopped before old left files past image stands) all = history_kept disks first before old past all

  -- ---- every file that no plan may change stays as it was

  -- more paths may differ
  wider : (more paths : List Text) (files m : Files) → IsSameElsewhere root paths files m → IsSameElsewhere root (more ++ paths) files m
  wider more paths files m same = (same.0, same.1, λ other apart. same.2 other (λ has. apart (Contains-append_right more paths other has)))

  -- of files that stand for others, which the one of a disk stand for
  alike_same : (paths : List Text) (files old after : Files) → IsSameElsewhere root paths files old → RecoversTo root old after → (other : Text) → ¬ Contains paths other → after other ≡ files other
  alike_same paths files old after same stands other apart = ap (λ (f : Files). f other) (one_meaning root old after same.0 stands same.1) ∙ same.2 other apart

  run_leaves : (run : Run) (before : List State) (old new : View) → IsSound old → (kept : IsKeptBy opens root run before old new) (paths : List Text) (files : Files)
      → ((m : Files) → old.images m → IsSameElsewhere root paths files m) → Leaves (IsSameElsewhere root (changed_by opens root run before old new kept ++ paths) files) old new
  run_leaves run before old new sound (inl none) paths files first = leaves_weaken (IsOldOrAlike root old) (IsSameElsewhere root paths files) old new each none.kept
    where
      each : (m : Files) → IsOldOrAlike root old m → IsSameElsewhere root paths files m
      each m (inl im) = first m im
      each m (inr (after, was, now)) = (after, now, alike_same paths files old.files after (first old.files sound.now) was)
  run_leaves run before old new sound (inr (command, asked, went)) paths files first =
      leaves_weaken (IsOldOrElsewhere root (plan_of run.ring command went.body went.start went.events).changes old went.found.0)
      (IsSameElsewhere root ((plan_of run.ring command went.body went.start went.events).changes ++ paths) files) old new each went.others.any_moment
    where
      each : (m : Files) → IsOldOrElsewhere root (plan_of run.ring command went.body went.start went.events).changes old went.found.0 m
          → IsSameElsewhere root ((plan_of run.ring command went.body went.start went.events).changes ++ paths) files m
      each m (inl im) = wider (plan_of run.ring command went.body went.start went.events).changes paths files m (first m im)
      each m (inr (after, stands, same)) = (
        after,
        stands,
        λ other apart.
            same other (λ has. apart (Contains-append_left (plan_of run.ring command went.body went.start went.events).changes paths other has))
            ∙ alike_same paths files old.files went.found.0 (first old.files sound.now) went.found.1 other (λ has. apart (Contains-append_right (plan_of run.ring command went.body went.start went.events).changes paths other has)),
      )

  pub history_same : {D : Type 0} (disks : DiskMeaning D) → ((disk : D) → IsSound (disks.view disk)) → (first states : List State) (disk : D) (past : History disks opens root first states disk) (files : Files)
      → ((m : Files) → (disks.view (first_disk disks opens root first states disk past)).images m → RecoversTo root m files)
      → (m : Files) → (disks.view disk).images m → IsSameElsewhere root (changes_of disks opens root first states disk past) files m
  unfolding changes_of first_disk
  history_same disks sound first states disk (begun now stand) files start = λ m im. (files, start m im, λ other apart. refl)
  history_same disks sound first states disk (handed_back before old new run kept past) files start =
      (run_leaves run before (disks.view old) (disks.view new) (sound old) kept (changes_of disks opens root first before old past) files (history_same disks sound first before old past files start)).now
  history_same disks sound first states disk (crashed before old new left run kept files' past was stands) files start = λ m im.
      let paths = changes_of disks opens root first before old past in
      let here = history_same disks sound first before old past files start in
      let more = changed_by opens root run before (disks.view old) (disks.view new) kept in
      subst (IsSameElsewhere root (more ++ paths) files) (sym (stands.only m im))
      (since_start (IsSameElsewhere root (more ++ paths) files) (disks.view old) (disks.view new) (sound old) (λ n is. wider more paths files n (here n is))
      (run_leaves run before (disks.view old) (disks.view new) (sound old) kept paths files here) files' was)
  history_same disks sound first states disk (stopped before old left files' past image stands) files start = λ m im.
      subst (IsSameElsewhere root (changes_of disks opens root first before old past) files) (sym (stands.only m im)) (history_same disks sound first before old past files start files' image)
