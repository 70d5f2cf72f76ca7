-- One turn of each loop of a commit and of an opening.
use Rattle.std.proofs.Common.{◌≡◌, ℕ, ◌+◌, ◌<◌, List, length, get_or, None, Some, refl, sym, ◌∙◌, ap, subst}
use Rattle.std.proofs.lemmas.Bool.{false≢true}
use Rattle.gopass_base.specs.Text.{Text, is_among}
use Rattle.disk_model.specs.Files.{Files, put, moved, Writes, Moves, Drops}
use Rattle.disk_model.specs.Disk.{View, Steps}
use Rattle.disk_model.specs.Runs.{Runs}
use Rattle.disk_model.proofs.FileLemmas.{put_apart}
use Rattle.disk_model.proofs.RunLemmas.{runs_step, runs_then}
use Rattle.pending_journal.specs.declared.put.Put.{Put}
use Rattle.pending_journal.specs.declared.change.Change.{Change}
use Rattle.pending_journal.specs.Built.{IsBuilt}
use Rattle.pending_journal.specs.Change.{plan_in}
use Rattle.pending_journal.specs.Carrying.{IsUnseen, IsOfPlan, IsStaged, IsFetched, IsSameBut}
use Rattle.pending_journal.proofs.RedoLemmas.{unseen_put, unseen_same, unseen_then, plan_same, plan_then}
use Rattle.pending_journal.proofs.ChangeLemmas.{moves_of, IsPut, is_put, move_step, staged_more, fetched_more, among_at}

module _ (root : Text) (change : Change) (ok : IsBuilt root change.journal change.fresh change.text.items change.puts_end change.puts.items change.drops.items) where
  module _ (i : ℕ) (p : Put) (is : p ≡ get_or change.puts.items i p) (lt : i < length change.puts.items) where
    the_put : IsPut root (moves_of change.puts.items) p
    the_put = subst (IsPut root (moves_of change.puts.items)) (sym is) (is_put root change ok i p lt)

    pub stage_runs : (start old new : View) → Runs (IsUnseen root) start old → Steps (Writes p.staged) old new → Runs (IsUnseen root) start new
    stage_runs start old new run step =
        runs_then (IsUnseen root) (unseen_same root) (unseen_then root) start old new run
        (runs_step (IsUnseen root) (unseen_same root) (Writes p.staged) old new (λ m n (v, made). subst (IsUnseen root m) (sym made) (unseen_put root m p.staged (Some v) the_put.staged the_put.not_journal)) step)

    pub stage_files : (before old new : Files) → IsStaged change i before old → new ≡ put old p.staged (Some p.bytes.items) → IsStaged change (i + 1) before new
    stage_files before old new so made = subst (IsStaged change (i + 1) before) (ap (λ (q : Put). put old q.staged (Some q.bytes.items)) (sym is) ∙ sym made) (staged_more root change ok i p lt before old so)

    pub fetch_runs : (start old new : View) → Runs (IsOfPlan root (plan_in change)) start old → Steps (Moves p.staged p.path) old new → Runs (IsOfPlan root (plan_in change)) start new
    fetch_runs start old new run step =
        let R = IsOfPlan root (plan_in change) in
        runs_then R (plan_same root (plan_in change)) (plan_then root (plan_in change)) start old new run
        (runs_step R (plan_same root (plan_in change)) (Moves p.staged p.path) old new (λ m n made. subst (R m) (ap (λ (q : Put). moved q.staged q.path m) (sym is) ∙ sym made) (move_step root change ok i p lt m)) step)

    pub fetch_files : (before old new : Files) → IsFetched change i before old → new ≡ moved p.staged p.path old → IsFetched change (i + 1) before new
    fetch_files before old new so made = subst (IsFetched change (i + 1) before) (ap (λ (q : Put). moved q.staged q.path old) (sym is) ∙ sym made) (fetched_more root change ok i p lt before old so)

pub but_same : (paths : List Text) (m : Files) → IsSameBut paths m m
but_same paths m q other = refl

pub but_then : (paths : List Text) (a b c : Files) → IsSameBut paths a b → IsSameBut paths b c → IsSameBut paths a c
but_then paths a b c s t q other = t q other ∙ s q other

module _ (paths : List Text) (i : ℕ) (p : Text) (is : p ≡ get_or paths i p) (lt : i < length paths) where
  pub remove_runs : (start old new : View) → Runs (IsSameBut paths) start old → Steps (Drops p) old new → Runs (IsSameBut paths) start new
  remove_runs start old new run step =
      runs_then (IsSameBut paths) (but_same paths) (but_then paths) start old new run
      (runs_step (IsSameBut paths) (but_same paths) (Drops p) old new (λ m n made q other. ap (λ (f : Files). f q) made ∙ put_apart m p q None (λ e. false≢true (sym other ∙ ap (is_among paths) (sym e ∙ is) ∙ among_at paths i p lt))) step)
