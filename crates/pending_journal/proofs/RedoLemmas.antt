-- Which steps leave what a set of files stands for.
use Rattle.std.proofs.Common.{◌≡◌, ◌≢◌, ◌↔◌, inl, inr, true, false, ◌||◌, if◌then◌else◌, List, Option, None, Some, refl, sym, ◌∙◌, ap, subst}
use Rattle.std.proofs.lemmas.Bool.{cases_Bool, false≢true, or_parts}
use Rattle.std.proofs.Math.Path.{fun_ext}
use Rattle.gopass_base.specs.Text.{Text, is_among}
use Rattle.disk_model.specs.Files.{Files, put}
use Rattle.disk_model.proofs.FileLemmas.{put_apart}
use Rattle.pending_journal.specs.Service.{is_service, without_service, journal_path}
use Rattle.pending_journal.specs.Journal.{JournalPlan, IsJournalPlan, journal_text}
use Rattle.pending_journal.specs.Redo.{Move, source_of, brought, redone_by, redone, RecoversBy, RecoversTo, IsAlike}
use Rattle.pending_journal.specs.Carrying.{IsUnseen, IsOfPlan}
use Rattle.pending_journal.proofs.PlanLemmas.{one_plan}

-- each of them stands for what the other stands for
abbrev pub IsLike : Text → Files → Files → Type 0
IsLike root files others = (after : Files) → RecoversTo root others after ↔ RecoversTo root files after

module _ (root : Text) where
  -- one of the vault's own differs from every other path
  pub apart : (p q : Text) → is_service root p ≡ true → is_service root q ≡ false → p ≢ q
  apart p q is is_not e = false≢true (sym is_not ∙ ap (is_service root) (sym e) ∙ is)

  pub without_own : (m : Files) (q : Text) → is_service root q ≡ true → without_service root m q ≡ None
  without_own m q is = ap (λ b. if b then None else m q) is

  pub without_other : (m : Files) (q : Text) → is_service root q ≡ false → without_service root m q ≡ m q
  without_other m q is = ap (λ b. if b then None else m q) is

  pub without-put : (m : Files) (p : Text) (v : Option Text) → is_service root p ≡ true → without_service root (put m p v) ≡ without_service root m
  without-put m p v is = fun_ext λ q. elim (cases_Bool (is_service root q)) [
    | inl on ↦ without_own (put m p v) q on ∙ sym (without_own m q on)
    | inr off ↦ without_other (put m p v) q off ∙ put_apart m p q v (apart p q is off) ∙ sym (without_other m q off)
  ]

  -- where none of them is there
  pub without_none : (files : Files) → ((q : Text) → is_service root q ≡ true → files q ≡ None) → without_service root files ≡ files
  without_none files none = fun_ext λ q. elim (cases_Bool (is_service root q)) [
    | inl on ↦ without_own files q on ∙ sym (none q on)
    | inr off ↦ without_other files q off
  ]

  -- a write at one of them
  pub unseen_put : (m : Files) (p : Text) (v : Option Text) → is_service root p ≡ true → p ≢ journal_path root → IsUnseen root m (put m p v)
  unseen_put m p v is not_journal = record { journal = put_apart m p (journal_path root) v not_journal; plain = without-put m p v is }

  pub unseen_same : (m : Files) → IsUnseen root m m
  unseen_same m = record { journal = refl; plain = refl }

  pub unseen_then : (a b c : Files) → IsUnseen root a b → IsUnseen root b c → IsUnseen root a c
  unseen_then a b c s t = record { journal = t.journal ∙ s.journal; plain = t.plain ∙ s.plain }

  -- ---- what files stand for
  pub stands_none : (m after : Files) → m (journal_path root) ≡ None → after ≡ without_service root m → RecoversTo root m after
  stands_none m after none is = subst (λ f. RecoversBy root f m after) (sym none) is

  pub stands_some : (m after : Files) (text : Text) (plan : JournalPlan) → m (journal_path root) ≡ Some text → IsJournalPlan root plan → text ≡ journal_text plan → after ≡ redone root plan m → RecoversTo root m after
  stands_some m after text plan some ok is_text is = subst (λ f. RecoversBy root f m after) (sym some) (plan, ok, is_text, is)

  pub of_none : (m after : Files) → m (journal_path root) ≡ None → RecoversTo root m after → after ≡ without_service root m
  of_none m after none stands = subst (λ f. RecoversBy root f m after) none stands

  pub of_some : (m after : Files) (text : Text) (plan : JournalPlan) → m (journal_path root) ≡ Some text → IsJournalPlan root plan → text ≡ journal_text plan → RecoversTo root m after → after ≡ redone root plan m
  of_some m after text plan some ok is_text stands =
      let by : RecoversBy root (Some text) m after = subst (λ f. RecoversBy root f m after) some stands in
      let same : by.0 ≡ plan = one_plan root by.0 plan by.1 ok (sym by.2 ∙ is_text) in
      by.3 ∙ ap (λ (p : JournalPlan). redone root p m) same

  pub alike_same : (m n : Files) → n ≡ m → IsLike root m n
  alike_same m n is after = (λ stands. subst (λ (f : Files). RecoversTo root f after) is stands, λ stands. subst (λ (f : Files). RecoversTo root f after) (sym is) stands)

  pub alike_then : (a b c : Files) → IsLike root a b → IsLike root b c → IsLike root a c
  alike_then a b c first second after = (λ stands. (first after).0 ((second after).0 stands), λ stands. (second after).1 ((first after).1 stands))

  -- without a journal
  pub alike_none : (m n : Files) → m (journal_path root) ≡ None → n (journal_path root) ≡ None → without_service root n ≡ without_service root m → IsLike root m n
  alike_none m n none none' same after = (
    λ stands. stands_none m after none (of_none n after none' stands ∙ same),
    λ stands. stands_none n after none' (of_none m after none stands ∙ sym same),
  )

  -- with the journal of one plan
  pub alike_some : (m n : Files) (text : Text) (plan : JournalPlan) → IsJournalPlan root plan → text ≡ journal_text plan → m (journal_path root) ≡ Some text → n (journal_path root) ≡ Some text → redone root plan n ≡ redone root plan m → IsLike root m n
  alike_some m n text plan ok is some some' same after = (
    λ stands. stands_some m after text plan some ok is (of_some n after text plan some' ok is stands ∙ same),
    λ stands. stands_some n after text plan some' ok is (of_some m after text plan some ok is stands ∙ sym same),
  )

  -- a journal is there, and in the other files it was carried out
  pub alike_done : (m n : Files) (text : Text) (plan : JournalPlan) → IsJournalPlan root plan → text ≡ journal_text plan → m (journal_path root) ≡ Some text → n (journal_path root) ≡ None → without_service root n ≡ redone root plan m → IsLike root m n
  alike_done m n text plan ok is some none same after = (
    λ stands. stands_some m after text plan some ok is (of_none n after none stands ∙ same),
    λ stands. stands_none n after none (of_some m after text plan some ok is stands ∙ sym same),
  )

  -- files that stand for something, and others that are like them
  pub alike_by : (m n after : Files) → RecoversTo root m after → IsLike root m n → IsAlike root m n
  alike_by m n after stands like = (after, stands, (like after).1 stands)

  -- ---- what a plan makes of files
  module _ (moves : List Move) (drops : List Text) where
    pub redone_gone : (m : Files) (q : Text) → (is_service root q || is_among drops q) ≡ true → redone_by root moves drops m q ≡ None
    unfolding redone_by
    redone_gone m q is = ap (λ b. if b then None else brought m (source_of moves q) (m q)) is

    pub redone_kept : (m : Files) (q : Text) → (is_service root q || is_among drops q) ≡ false → redone_by root moves drops m q ≡ brought m (source_of moves q) (m q)
    unfolding redone_by
    redone_kept m q is = ap (λ b. if b then None else brought m (source_of moves q) (m q)) is

    -- the same, where the two sets of files agree at the paths that count
    pub redone_same : (m n : Files) → ((q : Text) → is_service root q ≡ false → is_among drops q ≡ false → brought n (source_of moves q) (n q) ≡ brought m (source_of moves q) (m q)) → redone_by root moves drops n ≡ redone_by root moves drops m
    redone_same m n so = fun_ext λ q. elim (cases_Bool (is_service root q || is_among drops q)) [
      | inl on ↦ redone_gone n q on ∙ sym (redone_gone m q on)
      | inr off ↦ redone_kept n q off ∙ so q (or_parts _ _ off).0 (or_parts _ _ off).1 ∙ sym (redone_kept m q off)
    ]

  pub plan_same : (plan : JournalPlan) (m : Files) → IsOfPlan root plan m m
  plan_same plan m = record { journal = refl; redone = refl }

  pub plan_then : (plan : JournalPlan) (a b c : Files) → IsOfPlan root plan a b → IsOfPlan root plan b c → IsOfPlan root plan a c
  plan_then plan a b c s t = record { journal = t.journal ∙ s.journal; redone = t.redone ∙ s.redone }
