-- What the parts of an opening come to.
use Rattle.std.proofs.Common.{◌≡◌, inl, inr, ⊎_elim, true, false, ◌||◌, List, [], ◌∷◌, length, None, Some, refl, sym, ◌∙◌, ap, subst, bytes_eq, arith}
use Rattle.std.specs.Prelude.{Contains}
use Rattle.std.proofs.lemmas.Bool.{cases_Bool, false≢true}
use Rattle.std.proofs.Math.Path.{fun_ext}
use Rattle.gopass_base.specs.Text.{Text, is_among}
use Rattle.disk_model.specs.Files.{Files, put, Drops}
use Rattle.disk_model.specs.Disk.{View, IsSound, Rests, Steps, Syncs, Only, IsDurable}
use Rattle.disk_model.specs.Runs.{Runs, Leaves}
use Rattle.disk_model.specs.Listing.{LiesIn, IsListing}
use Rattle.disk_model.proofs.FileLemmas.{cases_path, cases_file, same_path, other_path, put_here}
use Rattle.disk_model.proofs.RunLemmas.{runs_step, runs_then, runs_weaken, leaves_runs, leaves_then, leaves_weaken}
use Rattle.pending_journal.specs.Service.{is_service, without_service, journal_path, fresh_path, stage_dir}
use Rattle.pending_journal.specs.Redo.{redone, RecoversTo, IsAlike, IsAtRest}
use Rattle.pending_journal.specs.declared.change.Change.{Change}
use Rattle.pending_journal.specs.Built.{IsBuilt}
use Rattle.pending_journal.specs.Change.{plan_in}
use Rattle.pending_journal.specs.Carrying.{IsUnseen, IsOfPlan, IsEither, IsRemoved, IsSameBut, IsCarried}
use Rattle.pending_journal.specs.Recovery.{IsOldOrAlike, IsSameOrAlike, IsUntouched, IsMended, IsCleared}
use Rattle.gopass_base.proofs.ListLemmas.{here, later, first_or}
use Rattle.pending_journal.proofs.ServiceLemmas.{service_journal, service_fresh, fresh_apart, below_service, below_not_journal, service_only}
use Rattle.pending_journal.proofs.RedoLemmas.{without_own, without_other, without_none, without-put, unseen_put, unseen_same, unseen_then, stands_none, stands_some, alike_some, alike_done, alike_by, redone_gone, IsLike}
use Rattle.pending_journal.proofs.ChangeLemmas.{place_of}
use Rattle.pending_journal.proofs.CommitLemmas.{settled}

among_contains : (paths : List Text) (q : Text) → is_among paths q ≡ true → Contains paths q
among_contains [] q is = absurd (false≢true is)
among_contains (p ∷ paths) q is = elim (cases_path p q) [
  | inl same ↦ subst (Contains (p ∷ paths)) same (here p paths)
  | inr other ↦ later p paths q (among_contains paths q (sym (ap (λ b. b || is_among paths q) (other_path p q other)) ∙ is))
]

contains_among : (paths : List Text) (q : Text) → Contains paths q → is_among paths q ≡ true
contains_among [] q (k, lt, is) = absurd (omega (arith, lt))
contains_among (p ∷ paths) q has = elim (first_or p paths q has) [
  | inl same ↦ ap (λ b. b || is_among paths q) (ap (λ (r : Text). bytes_eq p r) (sym same) ∙ same_path p)
  | inr more ↦ elim (bytes_eq p q) as (λ b. (b || is_among paths q) ≡ true) [
    | true ↦ refl
    | false ↦ contains_among paths q more
  ]
]

-- ---- clearing the vault's own files
module _ (root : Text) where
  pub clear_fresh : (fresh : Text) → fresh ≡ fresh_path root → (v0 v1 : View) → Steps (Drops fresh) v0 v1 → Runs (IsUnseen root) v0 v1
  clear_fresh fresh is v0 v1 step =
      runs_step (IsUnseen root) (unseen_same root) (Drops fresh) v0 v1 (λ m n made. subst (IsUnseen root m) (sym made)
      (unseen_put root m fresh None (ap (is_service root) is ∙ service_fresh root) (λ e. fresh_apart root (sym is ∙ e)))) step

  listed_below : (files : Files) (paths : List Text) → IsListing files (stage_dir root) paths → (q : Text) → is_among paths q ≡ true → LiesIn (stage_dir root) q
  listed_below files paths lists q among = ((lists.each q).0 (among_contains paths q among)).0

  but_unseen : (files : Files) (paths : List Text) → IsListing files (stage_dir root) paths → (m n : Files) → IsSameBut paths m n → IsUnseen root m n
  but_unseen files paths lists m n but = record {
    journal = elim (cases_Bool (is_among paths (journal_path root))) [
      | inl among ↦ absurd (below_not_journal root (journal_path root) (listed_below files paths lists (journal_path root) among) refl)
      | inr other ↦ but (journal_path root) other
    ];
    plain = fun_ext λ q. elim (cases_Bool (is_service root q)) [
      | inl on ↦ without_own root n q on ∙ sym (without_own root m q on)
      | inr off ↦ without_other root n q off ∙ elim (cases_Bool (is_among paths q)) [
        | inl among ↦ absurd (false≢true (sym off ∙ below_service root q (listed_below files paths lists q among)))
        | inr other ↦ but q other
      ] ∙ sym (without_other root m q off)
    ];
  }

  pub clear_all : (files : Files) (paths : List Text) → IsListing files (stage_dir root) paths → (v0 v2 v3 : View) → Runs (IsUnseen root) v0 v2 → Runs (IsSameBut paths) v2 v3 → Runs (IsUnseen root) v0 v3
  clear_all files paths lists v0 v2 v3 first run = runs_then (IsUnseen root) (unseen_same root) (unseen_then root) v0 v2 v3 first (runs_weaken (IsSameBut paths) (IsUnseen root) v2 v3 (but_unseen files paths lists) run)

  pub cleared : (f0 f1 f3 : Files) (paths : List Text) → f1 ≡ put f0 (fresh_path root) None → IsListing f1 (stage_dir root) paths → IsRemoved paths (length paths) f1 f3 → IsCleared root f3
  cleared f0 f1 f3 paths made lists removed q service not_journal = elim (cases_path (fresh_path root) q) [
    | inl e ↦ removed.none q (ap (λ (f : Files). f q) made ∙ subst (λ (r : Text). put f0 (fresh_path root) None r ≡ None) e (put_here f0 (fresh_path root) None))
    | inr not_fresh ↦ elim (cases_file (f1 q)) [
      | inl none ↦ removed.none q none
      | inr (v, some) ↦
          let among = contains_among paths q ((lists.each q).1 (service_only root q service not_journal (λ e. not_fresh (sym e)), (v, some))) in
          let place = place_of paths q among in
          subst (λ (p : Text). f3 p ≡ None) (place.2 q) (removed.gone place.0 q place.1)
    ]
  ]

-- ---- a journal that is on the disk
module _ (root : Text) (change : Change) (ok : IsBuilt root change.journal change.fresh change.text.items change.puts_end change.puts.items change.drops.items)
    (v0 : View) (text : v0.files change.journal ≡ Some change.text.items) (only : Only v0.files v0) where
  at_start : v0.files (journal_path root) ≡ Some change.text.items
  at_start = subst (λ (j : Text). v0.files j ≡ Some change.text.items) ok.journal_is text

  start_stands : RecoversTo root v0.files (redone root (plan_in change) v0.files)
  start_stands = stands_some root v0.files (redone root (plan_in change) v0.files) change.text.items (plan_in change) at_start ok.plan ok.text_is refl

  like_plan : (m n : Files) → v0.images m → IsOfPlan root (plan_in change) m n → IsLike root v0.files n
  like_plan m n im o = alike_some root v0.files n change.text.items (plan_in change) ok.plan ok.text_is at_start
      (o.journal ∙ ap (λ (f : Files). f (journal_path root)) (only m im) ∙ at_start) (o.redone ∙ ap (redone root (plan_in change)) (only m im))

  same_plan : (m n : Files) → v0.images m → IsOfPlan root (plan_in change) m n → IsAlike root v0.files n
  same_plan m n im o = alike_by root v0.files n (redone root (plan_in change) v0.files) start_stands (like_plan m n im o)

  pub settled_alike : (v1 : View) → Runs (IsOfPlan root (plan_in change)) v0 v1 → Leaves (IsAlike root v0.files) v0 v1
  settled_alike v1 run = leaves_runs (IsAlike root v0.files) (IsOfPlan root (plan_in change)) v0 v1 same_plan run

  module _ (v1 : View) (sound : IsSound v1) (run : Runs (IsOfPlan root (plan_in change)) v0 v1) (carried : IsCarried change v0.files v1.files) where
    without_is : without_service root v1.files ≡ redone root (plan_in change) v0.files
    without_is =
        let from = run.now v1.files sound.now in
        (fun_ext λ q. elim (cases_Bool (is_service root q)) [
          | inl on ↦ without_own root v1.files q on ∙ sym (redone_own q on)
          | inr off ↦ without_other root v1.files q off ∙ settled root change ok v0.files v1.files carried q off
        ]) ∙ from.2.redone ∙ ap (redone root (plan_in change)) (only from.0 from.1)
      where
        redone_own : (q : Text) → is_service root q ≡ true → redone root (plan_in change) v1.files q ≡ None
        redone_own q on = redone_gone root _ _ v1.files q (ap (λ b. b || is_among change.drops.items q) on)

    gone_journal : put v1.files change.journal None (journal_path root) ≡ None
    gone_journal = subst (λ (j : Text). put v1.files change.journal None j ≡ None) ok.journal_is (put_here v1.files change.journal None)

    gone_without : without_service root (put v1.files change.journal None) ≡ redone root (plan_in change) v0.files
    gone_without = without-put root v1.files change.journal None (ap (is_service root) ok.journal_is ∙ service_journal root) ∙ without_is

    gone_alike : IsAlike root v0.files (put v1.files change.journal None)
    gone_alike = alike_by root v0.files (put v1.files change.journal None) (redone root (plan_in change) v0.files) start_stands (alike_done root v0.files (put v1.files change.journal None) change.text.items (plan_in change) ok.plan ok.text_is at_start gone_journal gone_without)

    pub finished_alike : (v2 : View) → Leaves (IsAlike root v0.files) v0 v1 → Leaves (IsEither v1.files (put v1.files change.journal None)) v1 v2 → Leaves (IsAlike root v0.files) v0 v2
    finished_alike v2 so_far either = leaves_then (IsAlike root v0.files) v0 v1 v2 so_far (leaves_weaken (IsEither v1.files (put v1.files change.journal None)) (IsAlike root v0.files) v1 v2 good either)
      where
        good : (n : Files) → IsEither v1.files (put v1.files change.journal None) n → IsAlike root v0.files n
        good n (inl is) = subst (IsAlike root v0.files) (sym is) (so_far.now v1.files sound.now)
        good n (inr is) = subst (IsAlike root v0.files) (sym is) gone_alike

    pub finished_mended : (v2 : View) → IsDurable (put v1.files change.journal None) v2 → IsMended root v0.files v2
    finished_mended v2 stands = record {
      only = λ m im. stands.only m im ∙ sym stands.files;
      journal = ap (λ (f : Files). f (journal_path root)) stands.files ∙ gone_journal;
      stands = stands_some root v0.files (without_service root v2.files) change.text.items (plan_in change) at_start ok.plan ok.text_is (ap (without_service root) stands.files ∙ gone_without);
    }

-- ---- the whole
module _ (root : Text) where
  pub rests_alike : (v0 v1 : View) → Rests v0 v1 → Only v0.files v0 → Leaves (IsSameOrAlike root v0.files) v0 v1
  rests_alike v0 v1 rests only = record {
    later = rests.time.later;
    now = λ n im. inl (only n (rests.only n im));
    during = λ t n le left. ⊎_elim (λ was. inl was) (λ im. inr (inl (only n (rests.only n im)))) (rests.time.only t n le left);
  }

  pub mended_none : (v0 v1 : View) → Rests v0 v1 → Only v0.files v0 → v0.files (journal_path root) ≡ None → IsMended root v0.files v1
  mended_none v0 v1 rests only none = record {
    only = λ m im. only m (rests.only m im) ∙ sym rests.files;
    journal = ap (λ (f : Files). f (journal_path root)) rests.files ∙ none;
    stands = stands_none root v0.files (without_service root v1.files) none (ap (without_service root) rests.files);
  }

  pub rests_untouched : (v0 v1 : View) → Rests v0 v1 → IsUntouched v0 v1
  rests_untouched v0 v1 rests = record {
    files = rests.files;
    leaves = record { later = rests.time.later; now = rests.only; during = λ t n le left. ⊎_elim (λ was. inl was) (λ im. inr (rests.only n im)) (rests.time.only t n le left) };
  }

  module _ (v0 v1 v2 : View) (held : Rests v0 v1) (synced : Syncs v1 v2) where
    at_v2 : v2.files ≡ v0.files
    at_v2 = synced.files ∙ held.files

    pub held_any : Leaves (IsOldOrAlike root v0) v0 v1
    held_any = record { later = held.time.later; now = λ n im. inl (held.only n im); during = λ t n le left. ⊎_elim (λ was. inl was) (λ im. inr (inl (held.only n im))) (held.time.only t n le left) }

    pub synced_any : Leaves (IsOldOrAlike root v0) v0 v2
    synced_any =
        let second : Leaves (IsOldOrAlike root v0) v1 v2 = record { later = synced.time.later; now = λ n im. inl (held.only n (synced.only n im)); during = λ t n le left. ⊎_elim (λ was. inl was) (λ im. inr (inl (held.only n (synced.only n im)))) (synced.time.only t n le left) } in
        leaves_then (IsOldOrAlike root v0) v0 v1 v2 held_any second

    pub untouched_then : (v3 : View) → IsUntouched v2 v3 → IsUntouched v0 v3
    untouched_then v3 same = record {
      files = same.files ∙ at_v2;
      leaves = leaves_then v0.images v0 v2 v3 first (leaves_weaken v2.images v0.images v2 v3 (λ m im. held.only m (synced.only m im)) same.leaves);
    }
      where
        first : Leaves v0.images v0 v2
        first = leaves_then v0.images v0 v1 v2
            (record { later = held.time.later; now = held.only; during = λ t n le left. ⊎_elim (λ was. inl was) (λ im. inr (held.only n im)) (held.time.only t n le left) })
            (record { later = synced.time.later; now = λ n im. held.only n (synced.only n im); during = λ t n le left. ⊎_elim (λ was. inl was) (λ im. inr (held.only n (synced.only n im))) (synced.time.only t n le left) })

    module _ (v3 : View) (sound0 : IsSound v0) (mended : Leaves (IsSameOrAlike root v2.files) v2 v3) where
      pub mended_any : Leaves (IsOldOrAlike root v0) v0 v3
      mended_any = leaves_then (IsOldOrAlike root v0) v0 v2 v3 synced_any
          (leaves_weaken (IsSameOrAlike root v2.files) (IsOldOrAlike root v0) v2 v3 old_or mended)
        where
          old_or : (n : Files) → IsSameOrAlike root v2.files n → IsOldOrAlike root v0 n
          old_or n (inl same) = inl (subst v0.images (sym (same ∙ at_v2)) sound0.now)
          old_or n (inr alike) = inr (subst (λ (f : Files). IsAlike root f n) at_v2 alike)

      module _ (v4 : View) (redone : IsMended root v2.files v3) (run : Runs (IsUnseen root) v3 v4) where
        stands_v0 : RecoversTo root v0.files (without_service root v3.files)
        stands_v0 = subst (λ (f : Files). RecoversTo root f (without_service root v3.files)) at_v2 redone.stands

        unseen_journal : (m n : Files) → v3.images m → IsUnseen root m n → n (journal_path root) ≡ None
        unseen_journal m n im u = u.journal ∙ ap (λ (f : Files). f (journal_path root)) (redone.only m im) ∙ redone.journal

        unseen_plain : (m n : Files) → v3.images m → IsUnseen root m n → without_service root n ≡ without_service root v3.files
        unseen_plain m n im u = u.plain ∙ ap (without_service root) (redone.only m im)

        unseen_alike : (m n : Files) → v3.images m → IsUnseen root m n → IsAlike root v0.files n
        unseen_alike m n im u = (without_service root v3.files, stands_v0, stands_none root n (without_service root v3.files) (unseen_journal m n im u) (sym (unseen_plain m n im u)))

        pub opened_any : Leaves (IsOldOrAlike root v0) v0 v4
        opened_any = leaves_then (IsOldOrAlike root v0) v0 v3 v4 mended_any (leaves_runs (IsOldOrAlike root v0) (IsUnseen root) v3 v4 (λ m n im u. inr (unseen_alike m n im u)) run)

        none_left : IsSound v4 → IsCleared root v4.files → (q : Text) → is_service root q ≡ true → v4.files q ≡ None
        none_left sound cleared q on =
            let from = run.now v4.files sound.now in
            elim (cases_path (journal_path root) q) [
              | inl e ↦ subst (λ (r : Text). v4.files r ≡ None) e (unseen_journal from.0 v4.files from.1 from.2)
              | inr other ↦ cleared q on (λ e. other (sym e))
            ]

        pub opened_rest : IsSound v4 → Only v4.files v4 → IsCleared root v4.files → IsAtRest root v4
        opened_rest sound only cleared = record { only = only; none = none_left sound cleared }

        pub opened_stands : IsSound v4 → IsCleared root v4.files → RecoversTo root v0.files v4.files
        opened_stands sound cleared =
            let from = run.now v4.files sound.now in
            subst (RecoversTo root v0.files) (sym (unseen_plain from.0 v4.files from.1 from.2) ∙ without_none root v4.files (none_left sound cleared)) stands_v0

  -- ---- a journal that was read
  pub redo_alike : (v0 v1 v2 : View) → Rests v0 v1 → Only v0.files v0 → Leaves (IsAlike root v1.files) v1 v2 → Leaves (IsSameOrAlike root v0.files) v0 v2
  redo_alike v0 v1 v2 rests only run = leaves_then (IsSameOrAlike root v0.files) v0 v1 v2 (rests_alike v0 v1 rests only)
      (leaves_weaken (IsAlike root v1.files) (IsSameOrAlike root v0.files) v1 v2 (λ n alike. inr (subst (λ (f : Files). IsAlike root f n) rests.files alike)) run)

  pub redo_mended : (v0 v1 v2 : View) → Rests v0 v1 → IsMended root v1.files v2 → IsMended root v0.files v2
  redo_mended v0 v1 v2 rests mended = record {
    only = mended.only;
    journal = mended.journal;
    stands = subst (λ (f : Files). RecoversTo root f (without_service root v2.files)) rests.files mended.stands;
  }
