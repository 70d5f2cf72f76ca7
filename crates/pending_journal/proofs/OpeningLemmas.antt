-- What an opening leaves in the stage, and how many calls it takes.
use Rattle.std.proofs.Common.{◌≡◌, ◌≢◌, ℕ, ◌+◌, ◌<◌, true, List, [], length, get_or, Option, None, Some, refl, sym, ◌∙◌, ap, subst, arith}
use Rattle.std.specs.Prelude.{⊤}
use Rattle.std.proofs.lemmas.List.{length-map}
use Rattle.gopass_base.specs.Text.{Text}
use Rattle.gopass_base.specs.Faults.{Costs}
use Rattle.disk_model.specs.Files.{Files, put}
use Rattle.disk_model.specs.Listing.{LiesIn, IsListing}
use Rattle.disk_model.proofs.FileLemmas.{put_apart}
use Rattle.pending_journal.specs.Service.{journal_path, fresh_path, stage_dir}
use Rattle.pending_journal.specs.Journal.{IsJournalPlan, stage_path}
use Rattle.pending_journal.specs.declared.put.Put.{Put}
use Rattle.pending_journal.specs.declared.change.Change.{Change}
use Rattle.pending_journal.specs.Built.{IsBuilt}
use Rattle.pending_journal.specs.Change.{plan_in}
use Rattle.pending_journal.specs.Carrying.{IsCarried}
use Rattle.pending_journal.specs.Costs.{AreLeft, OpensIn, IsMovedFrom, MendsIn, IsMendedIn, IsClearedIn}
use Rattle.pending_journal.proofs.CostLemmas.{costs_next, costs_then, costs_is}
use Rattle.pending_journal.proofs.ServiceLemmas.{below_service, below_not_journal, below_not_fresh, stage_not_journal}
use Rattle.pending_journal.proofs.RedoLemmas.{apart}
use Rattle.pending_journal.proofs.ChangeLemmas.{length-named, plain_put, not_dropped}

-- the plan is carried out and the journal gone
module _ (root : Text) (change : Change) (ok : IsBuilt root change.journal change.fresh change.text.items change.puts_end change.puts.items change.drops.items) where
  abbrev puts : List Put
  puts = change.puts.items

  abbrev witness : Put
  witness = record { staged = change.journal; path = change.journal; bytes = change.text }

  pub moved_from : (old mid new : Files) → IsCarried change old mid → new ≡ put mid change.journal None → IsMovedFrom root (plan_in change).puts old new
  moved_from old mid new carried is = record {
    gone = λ i lt. gone i (omega (arith, lt, length-map puts (λ (put : Put). put.path)));
    rest = λ q lies unmoved. (
        let own = below_service root q lies in
        ap (λ (f : Files). f q) is ∙ put_apart mid change.journal q None (λ e. below_not_journal root q lies (sym e ∙ ok.journal_is))
        ∙ carried.rest q (λ j d lt e. apart root q (get_or puts j d).path own (plain_put root change ok j d lt) (sym e))
        (λ j d lt e. unmoved j (omega (arith, lt, length-map puts (λ (put : Put). put.path))) (sym e ∙ ok.staged j d lt)) (not_dropped root change ok q own)
        );
  }
    where
      gone : (i : ℕ) → i < length puts → new (stage_path root i) ≡ None
      gone i lt = ap (λ (f : Files). f (stage_path root i)) is ∙ put_apart mid change.journal (stage_path root i) None (λ e. stage_not_journal root i (sym e ∙ ok.journal_is))
          ∙ subst (λ (p : Text). mid p ≡ None) (ok.staged i witness lt) (carried.stages i witness lt)

-- nothing was moved
pub moved_none : (root : Text) (old new : Files) → new ≡ old → IsMovedFrom root [] old new
moved_none root old new same = record { gone = λ i lt. absurd (omega (arith, lt)); rest = λ q lies unmoved. ap (λ (f : Files). f q) same }

-- the new text of the journal is none of the stage
pub listing_fresh : (root : Text) (files : Files) (left : List Text) → IsListing (put files (fresh_path root) None) (stage_dir root) left → IsListing files (stage_dir root) left
listing_fresh root files left lists = record {
  rising = lists.rising;
  each = λ q. (
    λ has. (let has' = (lists.each q).0 has in (has'.0, (has'.1.0, sym (away q has'.0) ∙ has'.1.1))),
    λ here. (lists.each q).1 (here.0, (here.1.0, away q here.0 ∙ here.1.1)),
  );
}
  where
    away : (q : Text) → LiesIn (stage_dir root) q → put files (fresh_path root) None q ≡ files q
    away q lies = put_apart files (fresh_path root) q None (λ e. below_not_fresh root q lies (sym e))

-- what lies in the stage behind the moves
left_from : (root : Text) (puts left : List Text) (old new : Files) → IsMovedFrom root puts old new → IsListing new (stage_dir root) left → AreLeft root puts old left
left_from root puts left old new moved lists = record {
  rising = lists.rising;
  each = λ q. (
    λ has. (
        let here = (lists.each q).0 has in
        let unmoved : (i : ℕ) → i < length puts → q ≢ stage_path root i = λ i lt e. none_some (sym (moved.gone i lt) ∙ ap new (sym e) ∙ here.1.1) in
        record { lies = here.0; there = (here.1.0, sym (moved.rest q here.0 unmoved) ∙ here.1.1); unmoved = unmoved }
        ),
    λ l. (lists.each q).1 (l.lies, (l.there.0, moved.rest q l.lies l.unmoved ∙ l.there.1)),
  );
}
  where
    none_some : {b : Text} → None ≡ Some b → ⊥
    none_some e = cc

-- no journal is there
pub asked_none : (root journal : Text) (old new : Files) (a b : ℕ) → journal ≡ journal_path root → old journal ≡ None → new ≡ old → Costs 1 a b ⊤ → IsMendedIn root old new a b
asked_none root journal old new a b is none same cost =
    let gone : old (journal_path root) ≡ None = subst (λ (j : Text). old j ≡ None) is none in
    subst (λ (file : Option Text). MendsIn root file old new a b) (sym gone) (moved_none root old new same, cost)

-- the change of a journal is made
pub asked_some : (root journal : Text) (change : Change) (ok : IsBuilt change.root change.journal change.fresh change.text.items change.puts_end change.puts.items change.drops.items) (old mid new : Files) (a b c : ℕ)
    → change.root ≡ root → journal ≡ journal_path root → old journal ≡ Some change.text.items → mid ≡ old → IsMovedFrom change.root (plan_in change).puts mid new
    → Costs 1 a b (true ≡ true) → Costs (length change.puts.items + length change.drops.items + 3) b c ⊤ → IsMendedIn root old new a c
asked_some root journal change ok old mid new a b c same is some rest moved one more =
    let there : old (journal_path root) ≡ Some change.text.items = subst (λ (j : Text). old j ≡ Some change.text.items) is some in
    let plan = plan_in change in
    subst (λ (file : Option Text). MendsIn root file old new a c) (sym there) (
      plan,
      subst (λ (r : Text). IsJournalPlan r plan) same ok.plan,
      ok.text_is,
      subst (λ (f : Files). IsMovedFrom root plan.puts f new) rest (subst (λ (r : Text). IsMovedFrom r plan.puts mid new) same moved),
      costs_is (omega (arith, length-named change.puts.items change.drops.items)) (λ t. t) (costs_next one more),
    )

pub opened_in : (root : Text) (file : Option Text) (old new : Files) (a b c d : ℕ) → Costs 2 a b ⊤ → MendsIn root file old new b c → IsClearedIn root new c d → (n : ℕ) × OpensIn root file old n × Costs n a d ⊤
opened_in root None old new a b c d first (moved, mended) (left, lists, cleared) =
    (6 + length left, (left, left_from root [] left old new moved lists, refl), costs_is (omega arith) (λ t. t) (costs_then (λ t. t) (λ t. t) (costs_then (λ t. t) (λ t. t) first mended) cleared))
opened_in root (Some text) old new a b c d first (plan, ok, is, moved, mended) (left, lists, cleared) =
    (_, (plan, left, ok, is, left_from root plan.puts left old new moved lists, refl), costs_is (omega arith) (λ t. t) (costs_then (λ t. t) (λ t. t) (costs_then (λ t. t) (λ t. t) first mended) cleared))
