-- What the parts of a commit come to.
use Rattle.std.proofs.Common.{◌≡◌, ◌≢◌, ◌⊎◌, inl, inr, ℕ, zero, suc, ◌<◌, true, false, ◌||◌, if◌then◌else◌, List, [], ◌∷◌, length, get_or, None, Some, Result, Ok, Err, OnOk, sym, ◌∙◌, ap, subst, arith}
use Rattle.std.specs.Option.{option_or}
use Rattle.std.proofs.lemmas.Bool.{cases_Bool}
use Rattle.std.proofs.Math.Path.{fun_ext}
use Rattle.gopass_base.specs.Text.{Text, is_among}
use Rattle.disk_model.specs.Files.{Files, put, moved, Writes}
use Rattle.disk_model.specs.Disk.{View, IsSound, Steps, Syncs, Only, IsDurable}
use Rattle.disk_model.specs.Runs.{Runs, Leaves}
use Rattle.disk_model.proofs.FileLemmas.{cases_path, put_here, put_apart, moved_some}
use Rattle.disk_model.proofs.RunLemmas.{runs_step, runs_then, leaves_runs, leaves_then, leaves_step, leaves_sync, leaves_weaken}
use Rattle.pending_journal.specs.Service.{is_service, without_service, journal_path}
use Rattle.pending_journal.specs.Redo.{source_of, brought, redone_by, redone, RecoversTo, IsAtRest, IsBeforeOrAfter}
use Rattle.pending_journal.specs.declared.put.Put.{Put}
use Rattle.pending_journal.specs.declared.change.Change.{Change}
use Rattle.pending_journal.specs.Built.{IsBuilt}
use Rattle.pending_journal.specs.Change.{plan_in, contents_of, put_at, changed}
use Rattle.pending_journal.specs.Carrying.{IsUnseen, IsOfPlan, IsEither, IsStaged, IsFetched, IsRemoved, IsReady, IsCarried}
use Rattle.pending_journal.proofs.ServiceLemmas.{service_journal, service_fresh, fresh_apart}
use Rattle.pending_journal.proofs.RedoLemmas.{apart, without_none, unseen_put, unseen_same, unseen_then, stands_none, stands_some, redone_gone, redone_kept}
use Rattle.pending_journal.proofs.ChangeLemmas.{moves_of, find, is_put, found_is, place_of, redone_is}

pub on_ok : {T E P : Type 0} (r : Result T E) → P → OnOk r P
on_ok (Ok x) p = p
on_ok (Err e) p = tt

pub on_ok_then : {T E P Q : Type 0} (r : Result T E) → OnOk r P → (P → Q) → OnOk r Q
on_ok_then (Ok x) p f = f p
on_ok_then (Err e) p f = tt

-- the stage of some put, or of none
find_stage : (puts : List Put) (q : Text) → ((j : ℕ) (d : Put) → j < length puts → (get_or puts j d).staged ≢ q) ⊎ ((j : ℕ) × (j < length puts) × ((d : Put) → (get_or puts j d).staged ≡ q))
find_stage [] q = inl (λ j d lt. absurd (omega arith))
find_stage (p ∷ puts) q = elim (cases_path p.staged q) [
  | inl is ↦ inr (0, omega arith, λ d. is)
  | inr isnt ↦ elim (find_stage puts q) [
    | inl none ↦ inl (cons isnt none)
    | inr (j, lt, at) ↦ inr (suc j, omega arith, at)
  ]
]
  where
    cons : p.staged ≢ q → ((j : ℕ) (d : Put) → j < length puts → (get_or puts j d).staged ≢ q) → (j : ℕ) (d : Put) → j < length (p ∷ puts) → (get_or (p ∷ puts) j d).staged ≢ q
    cons isnt none zero d lt = isnt
    cons isnt none (suc j) d lt = none j d (omega arith)

module _ (root : Text) (change : Change) (ok : IsBuilt root change.journal change.fresh change.text.items change.puts_end change.puts.items change.drops.items) where
  abbrev puts : List Put
  puts = change.puts.items

  abbrev drops : List Text
  drops = change.drops.items

  fresh_service : is_service root change.fresh ≡ true
  fresh_service = ap (is_service root) ok.fresh_is ∙ service_fresh root

  journal_service : is_service root change.journal ≡ true
  journal_service = ap (is_service root) ok.journal_is ∙ service_journal root

  fresh_not_journal : change.fresh ≢ journal_path root
  fresh_not_journal e = fresh_apart root (sym ok.fresh_is ∙ e)

  -- ---- the parts
  pub ready_from : (before mid files : Files) → IsStaged change (length change.puts.items) before mid → files ≡ put mid change.fresh (Some change.text.items) → IsReady change before files
  ready_from before mid files so made = subst (IsReady change before) (sym made) (record {
    those = λ j d lt. put_apart mid change.fresh (get_or puts j d).staged _ (λ e. (is_put root change ok j d lt).not_fresh (sym e ∙ ok.fresh_is)) ∙ so.those j d lt;
    text = put_here mid change.fresh _;
    rest = λ q other not_fresh. put_apart mid change.fresh q _ not_fresh ∙ so.rest q other;
  })

  pub fresh_step : (start old new : View) → Runs (IsUnseen root) start old → Steps (Writes change.fresh) old new → Runs (IsUnseen root) start new
  fresh_step start old new run step =
      runs_then (IsUnseen root) (unseen_same root) (unseen_then root) start old new run
      (runs_step (IsUnseen root) (unseen_same root) (Writes change.fresh) old new (λ m n (v, made). subst (IsUnseen root m) (sym made)
      (unseen_put root m change.fresh (Some v) fresh_service fresh_not_journal)) step)

  pub carried_from : (before mid files : Files) → IsFetched change (length change.puts.items) before mid → IsRemoved change.drops.items (length change.drops.items) mid files → IsCarried change before files
  carried_from before mid files fetched dropped = record {
    stages = λ j d lt. dropped.none (get_or puts j d).staged (fetched.gone j d lt);
    drops = dropped.gone;
    none = λ q other none. dropped.none q (fetched.none q other none);
    rest = λ q no_put no_stage kept. dropped.rest q kept ∙ fetched.rest q no_put no_stage;
  }

  -- ---- the files after
  changed_kept : (files : Files) (q : Text) → is_among change.drops.items q ≡ false → changed change files q ≡ put_at (contents_of puts) q (files q)
  unfolding changed
  changed_kept files q is = ap (λ b. if b then None else put_at (contents_of puts) q (files q)) is

  changed_gone : (files : Files) (q : Text) → is_among change.drops.items q ≡ true → changed change files q ≡ None
  unfolding changed
  changed_gone files q is = ap (λ b. if b then None else put_at (contents_of puts) q (files q)) is

  pub changed_service : (files : Files) → ((q : Text) → is_service root q ≡ true → files q ≡ None) → (q : Text) → is_service root q ≡ true → changed change files q ≡ None
  changed_service files none q service = elim (cases_Bool (is_among change.drops.items q)) [
    | inl on ↦ changed_gone files q on
    | inr off ↦ changed_kept files q off ∙ elim (find puts q) [
      | inl f ↦ f.bytes (files q) ∙ none q service
      | inr f ↦ absurd (apart root q f.put.path service (found_is root change ok q f).path (sym f.path))
    ]
  ]

  -- the files once the journal has its name
  abbrev pub with_journal : Files → Files
  with_journal files = put (put files change.fresh None) change.journal (Some change.text.items)

  abbrev by_plan : Files → Files
  by_plan m = redone_by root (moves_of puts) drops m

  -- the journal under its name, with all staged, stands for the files after
  pub planned : (before files : Files) → ((q : Text) → is_service root q ≡ true → before q ≡ None) → IsReady change before files
      → redone root (plan_in change) (put (put files change.fresh None) change.journal (Some change.text.items)) ≡ changed change before
  planned before files none ready = redone_is root change ok (with_journal files) ∙ fun_ext λ q. elim (cases_Bool (is_service root q)) [
    | inl on ↦ redone_gone root (moves_of puts) drops (with_journal files) q (ap (λ b. b || is_among change.drops.items q) on) ∙ sym (changed_service before none q on)
    | inr off ↦ elim (cases_Bool (is_among change.drops.items q)) [
      | inl among ↦ redone_gone root (moves_of puts) drops (with_journal files) q (ap (λ b. b || is_among change.drops.items q) off ∙ among) ∙ sym (changed_gone before q among)
      | inr other ↦ redone_kept root (moves_of puts) drops (with_journal files) q (ap (λ b. b || is_among change.drops.items q) off ∙ other) ∙ kept q off ∙ sym (changed_kept before q other)
    ]
  ]
    where
      away : (q : Text) → change.fresh ≢ q → change.journal ≢ q → put (put files change.fresh None) change.journal (Some change.text.items) q ≡ files q
      away q not_fresh not_journal = put_apart (put files change.fresh None) change.journal q _ not_journal ∙ put_apart files change.fresh q None not_fresh

      kept : (q : Text) → is_service root q ≡ false → brought (with_journal files) (source_of (moves_of puts) q) ((with_journal files) q) ≡ put_at (contents_of puts) q (before q)
      kept q plain =
          let here : (with_journal files) q ≡ files q = away q (apart root change.fresh q fresh_service plain) (apart root change.journal q journal_service plain) in
          elim (find puts q) [
            | inl f ↦ ap (λ s. brought (with_journal files) s ((with_journal files) q)) f.source ∙ here
                ∙ ready.rest q (λ j d lt. apart root (get_or puts j d).staged q (is_put root change ok j d lt).staged plain) (apart root change.fresh q fresh_service plain)
                ∙ sym (f.bytes (before q))
            | inr f ↦
                let found = found_is root change ok q f in
                let s = f.put.staged in
                let staged : files s ≡ Some f.put.bytes.items = subst (λ (p : Put). files p.staged ≡ Some p.bytes.items) (f.at f.put) (ready.those f.i f.put f.below) in
                ap (λ t. brought (with_journal files) t ((with_journal files) q)) f.source
                ∙ ap (λ g. option_or g ((with_journal files) q)) (away s (λ e. found.not_fresh (sym e ∙ ok.fresh_is)) (λ e. found.not_journal (sym e ∙ ok.journal_is)) ∙ staged)
                ∙ sym (f.bytes (before q))
          ]

  -- where the plan is carried out the files without the vault's own are what it makes of them
  pub settled : (mid files : Files) → IsCarried change mid files → (q : Text) → is_service root q ≡ false → files q ≡ redone root (plan_in change) files q
  settled mid files carried q off = elim (cases_Bool (is_among change.drops.items q)) [
    | inl among ↦
        let place = place_of change.drops.items q among in
        subst (λ (r : Text). files r ≡ None) (place.2 q) (carried.drops place.0 q place.1) ∙ sym (redone_gone root (moves_of puts) drops files q (ap (λ b. b || is_among change.drops.items q) off ∙ among))
    | inr other ↦ sym (redone_kept root (moves_of puts) drops files q (ap (λ b. b || is_among change.drops.items q) off ∙ other) ∙ elim (find puts q) [
      | inl f ↦ ap (λ s. brought files s (files q)) f.source
      | inr f ↦ ap (λ s. brought files s (files q)) f.source ∙ ap (λ g. option_or g (files q)) (subst (λ (p : Put). files p.staged ≡ None) (f.at f.put) (carried.stages f.i f.put f.below))
    ])
  ] ∙ ap (λ (f : Files). f q) (sym (redone_is root change ok files))

  -- the plan is carried out and the journal gone: the files after, and nothing else
  pub ended : (before ready_files mid files : Files) → ((q : Text) → is_service root q ≡ true → before q ≡ None) → IsReady change before ready_files
      → mid ≡ put (put ready_files change.fresh None) change.journal (Some change.text.items) → IsCarried change mid files
      → redone root (plan_in change) files ≡ changed change before → put files change.journal None ≡ changed change before
  ended before ready_files mid files none ready is carried stands = fun_ext λ q. elim (cases_path change.journal q) [
    | inl e ↦ subst (λ (r : Text). put files change.journal None r ≡ changed change before r) e (put_here files change.journal None ∙ sym (changed_service before none change.journal journal_service))
    | inr isnt ↦ put_apart files change.journal q None isnt ∙ elim (cases_Bool (is_service root q)) [
      | inl on ↦ gone q on isnt ∙ sym (changed_service before none q on)
      | inr off ↦ settled mid files carried q off ∙ ap (λ (f : Files). f q) stands
    ]
  ]
    where
      witness : Put
      witness = record { staged = change.journal; path = change.journal; bytes = change.text }

      gone : (q : Text) → is_service root q ≡ true → change.journal ≢ q → files q ≡ None
      gone q service not_journal = elim (find_stage puts q) [
        | inr (j, lt, at) ↦ subst (λ (r : Text). files r ≡ None) (at witness) (carried.stages j witness lt)
        | inl other ↦ carried.none q (λ j d lt e. apart root q (get_or puts j d).path service (is_put root change ok j d lt).path (sym e)) (ap (λ (f : Files). f q) is ∙ put_apart (put ready_files change.fresh None) change.journal q _ not_journal ∙ elim (cases_path change.fresh q) [
          | inl e ↦ subst (λ (r : Text). put ready_files change.fresh None r ≡ None) e (put_here ready_files change.fresh None)
          | inr not_fresh ↦ put_apart ready_files change.fresh q None not_fresh ∙ ready.rest q other not_fresh ∙ none q service
        ])
      ]

  -- the files after are at rest
  pub rests_from : (before : Files) (disk : View) → ((q : Text) → is_service root q ≡ true → before q ≡ None) → IsDurable (changed change before) disk → IsAtRest root disk
  rests_from before disk none stands = record {
    only = λ m im. stands.only m im ∙ sym stands.files;
    none = λ q on. ap (λ (f : Files). f q) stands.files ∙ changed_service before none q on;
  }

  -- ---- the moments
  module _ (v0 : View) (rest : IsAtRest root v0) where
    abbrev pub Good : Files → Type 0
    Good = IsBeforeOrAfter root v0.files (changed change v0.files)

    unseen_before : (m n : Files) → v0.images m → IsUnseen root m n → Good n
    unseen_before m n im u = inl (stands_none root n v0.files (u.journal ∙ ap (λ (f : Files). f (journal_path root)) (rest.only m im) ∙ rest.none (journal_path root) (service_journal root))
        (sym (u.plain ∙ ap (without_service root) (rest.only m im) ∙ without_none root v0.files rest.none)))

    pub after_prepare : (v1 : View) → Runs (IsUnseen root) v0 v1 → Leaves Good v0 v1
    after_prepare v1 run = leaves_runs Good (IsUnseen root) v0 v1 unseen_before run

    module _ (v1 : View) (ready : IsReady change v0.files v1.files) where
      is_named : moved change.fresh change.journal v1.files ≡ with_journal v1.files
      is_named = moved_some change.fresh change.journal v1.files change.text.items ready.text

      named_journal : with_journal v1.files (journal_path root) ≡ Some change.text.items
      named_journal = subst (λ (j : Text). with_journal v1.files j ≡ Some change.text.items) ok.journal_is (put_here (put v1.files change.fresh None) change.journal (Some change.text.items))

      named_good : Good (moved change.fresh change.journal v1.files)
      named_good = inr (subst (λ (f : Files). RecoversTo root f (changed change v0.files)) (sym is_named)
          (stands_some root (with_journal v1.files) (changed change v0.files) change.text.items (plan_in change) named_journal ok.plan ok.text_is (sym (planned v0.files v1.files rest.none ready))))

      pub after_seal : (v2 : View) → IsSound v1 → Leaves Good v0 v1 → Leaves (IsEither v1.files (moved change.fresh change.journal v1.files)) v1 v2 → Leaves Good v0 v2
      after_seal v2 sound so_far either = leaves_then Good v0 v1 v2 so_far (leaves_weaken (IsEither v1.files (moved change.fresh change.journal v1.files)) Good v1 v2 good either)
        where
          good : (n : Files) → IsEither v1.files (moved change.fresh change.journal v1.files) n → Good n
          good n (inl is) = subst Good (sym is) (so_far.now v1.files sound.now)
          good n (inr is) = subst Good (sym is) named_good

      module _ (v2 : View) (stands : IsDurable (moved change.fresh change.journal v1.files) v2) where
        of_plan : (m n : Files) → v2.images m → IsOfPlan root (plan_in change) m n → redone root (plan_in change) n ≡ changed change v0.files
        of_plan m n im o = o.redone ∙ ap (redone root (plan_in change)) (stands.only m im ∙ is_named) ∙ planned v0.files v1.files rest.none ready

        plan_good : (m n : Files) → v2.images m → IsOfPlan root (plan_in change) m n → Good n
        plan_good m n im o = inr (stands_some root n (changed change v0.files) change.text.items (plan_in change) (o.journal ∙ ap (λ (f : Files). f (journal_path root)) (stands.only m im ∙ is_named) ∙ named_journal) ok.plan ok.text_is (sym (of_plan m n im o)))

        pub after_settle : (v3 : View) → Leaves Good v0 v2 → Runs (IsOfPlan root (plan_in change)) v2 v3 → Leaves Good v0 v3
        after_settle v3 so_far run = leaves_then Good v0 v2 v3 so_far (leaves_runs Good (IsOfPlan root (plan_in change)) v2 v3 plan_good run)

        module _ (v3 : View) (sound : IsSound v3) (run : Runs (IsOfPlan root (plan_in change)) v2 v3) (carried : IsCarried change v2.files v3.files) where
          pub is_changed : put v3.files change.journal None ≡ changed change v0.files
          is_changed =
              let from = run.now v3.files sound.now in
              ended v0.files v1.files v2.files v3.files rest.none ready (stands.files ∙ is_named) carried (of_plan from.0 v3.files from.1 from.2)

          changed_good : Good (changed change v0.files)
          changed_good = inr (stands_none root (changed change v0.files) (changed change v0.files) (changed_service v0.files rest.none (journal_path root) (service_journal root))
              (sym (without_none root (changed change v0.files) (changed_service v0.files rest.none))))

          pub after_finish : (v4 : View) → Leaves Good v0 v3 → Leaves (IsEither v3.files (put v3.files change.journal None)) v3 v4 → Leaves Good v0 v4
          after_finish v4 so_far either = leaves_then Good v0 v3 v4 so_far (leaves_weaken (IsEither v3.files (put v3.files change.journal None)) Good v3 v4 good either)
            where
              good : (n : Files) → IsEither v3.files (put v3.files change.journal None) n → Good n
              good n (inl is) = subst Good (sym is) (so_far.now v3.files sound.now)
              good n (inr is) = subst Good (sym (is ∙ is_changed)) changed_good

-- one step and a sync from files that are the only image
pub either_step : (step : Files → Files → Type 0) (made : Files) (old new : View) → ((m n : Files) → m ≡ old.files → step m n → n ≡ made) → Only old.files old → Steps step old new → Leaves (IsEither old.files made) old new
either_step step made old new so only steps = leaves_step (IsEither old.files made) step old new (λ n im. inl (only n im)) (λ m n im s. inr (so m n (only m im) s)) steps

pub synced : (P : Files → Type 0) (old mid new : View) → Leaves P old mid → Syncs mid new → Leaves P old new
synced P old mid new so_far sync = leaves_then P old mid new so_far (leaves_sync P mid new so_far.now sync)

pub stands_from : (content : Files) (mid new : View) → mid.files ≡ content → Syncs mid new → Only mid.files new → IsDurable content new
stands_from content mid new is sync only = record { files = sync.files ∙ is; only = λ m im. only m im ∙ is }
