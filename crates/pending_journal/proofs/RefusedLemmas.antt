-- An opening that is refused makes no more calls than one that is done.
use Rattle.std.proofs.Common.{◌≡◌, ◌≢◌, ℕ, ◌+◌, ◌<◌, ◌≤◌, List, [], length, Option, None, Some, refl, sym, ◌∙◌, ap, subst, arith}
use Rattle.std.specs.Prelude.{⊤}
use Rattle.gopass_base.specs.Text.{Text}
use Rattle.gopass_base.specs.Faults.{Costs}
use Rattle.disk_model.specs.Files.{Files}
use Rattle.disk_model.specs.Listing.{IsListing}
use Rattle.pending_journal.specs.Service.{journal_path, stage_dir}
use Rattle.pending_journal.specs.Journal.{JournalPlan, IsJournalPlan, paths_of, stage_path}
use Rattle.pending_journal.specs.declared.change.Change.{Change}
use Rattle.pending_journal.specs.Built.{IsBuilt}
use Rattle.pending_journal.specs.Change.{plan_in}
use Rattle.pending_journal.specs.Costs.{AreLeft, OpensIn, IsMovedFrom, MendTakes, MendsIn, IsMendedIn}
use Rattle.pending_journal.specs.Faults.{HasBadJournal, IsBadText}
use Rattle.pending_journal.proofs.CostLemmas.{costs_most, costs_then}
use Rattle.pending_journal.proofs.PlanLemmas.{one_plan}
use Rattle.pending_journal.proofs.ChangeLemmas.{length-named}

-- ---- the journal
pub mend_one : (root : Text) (file : Option Text) (n : ℕ) → MendTakes root file n → 1 ≤ n
mend_one root None n is = omega (arith, is)
mend_one root (Some text) n (plan, ok, is, takes) = omega (arith, takes)

pub mend_most : (root : Text) (file : Option Text) (change : Change) (ok : IsBuilt change.root change.journal change.fresh change.text.items change.puts_end change.puts.items change.drops.items) (n : ℕ)
    → change.root ≡ root → file ≡ Some change.text.items → MendTakes root file n → 1 + (length change.puts.items + length change.drops.items + 3) ≤ n
mend_most root None change ok n same some takes = absurd (cc)
mend_most root (Some text) change ok n same some (plan, good, is, takes) =
    let texts : text ≡ change.text.items = cc in
    let one : plan ≡ plan_in change = one_plan root plan (plan_in change) good (subst (λ (r : Text). IsJournalPlan r (plan_in change)) same ok.plan) (sym is ∙ texts ∙ ok.text_is) in
    omega (arith, takes, ap (λ (p : JournalPlan). length (paths_of p)) one, length-named change.puts.items change.drops.items)

-- a journal that reads is not a bad one
pub reads_well : (root journal : Text) (files : Files) (change : Change) (ok : IsBuilt change.root change.journal change.fresh change.text.items change.puts_end change.puts.items change.drops.items)
    → change.root ≡ root → journal ≡ journal_path root → files journal ≡ Some change.text.items → HasBadJournal root files → ⊥
reads_well root journal files change ok same is some (text, there, bad) =
    let texts : change.text.items ≡ text = just (sym some ∙ ap files is ∙ there) in
    bad (plan_in change) (subst (λ (r : Text). IsJournalPlan r (plan_in change)) same ok.plan) (sym texts ∙ ok.text_is)
  where
    just : {a b : Text} → Some a ≡ Some b → a ≡ b
    just e = cc

mended_well : (root : Text) (file : Option Text) (old new : Files) (a b : ℕ) (text : Text) → MendsIn root file old new a b → file ≡ Some text → IsBadText root text → ⊥
mended_well root None old new a b text mended is bad = absurd (cc)
mended_well root (Some found) old new a b text (plan, ok, reads, moved, cost) is bad = let same : found ≡ text = cc in bad plan ok (sym same ∙ reads)

-- nor is one whose change was made
pub mends_well : (root : Text) (old new : Files) (a b : ℕ) → IsMendedIn root old new a b → HasBadJournal root old → ⊥
mends_well root old new a b mended (text, there, bad) = mended_well root (old (journal_path root)) old new a b text mended there bad

-- ---- the whole
pub opens_six : (root : Text) (file : Option Text) (files : Files) (n : ℕ) → OpensIn root file files n → 6 ≤ n
opens_six root None files n (left, are, is) = omega (arith, is)
opens_six root (Some text) files n (plan, left, ok, is, are, takes) = omega (arith, takes)

pub opens_mend : (root : Text) (file : Option Text) (files : Files) (n : ℕ) → OpensIn root file files n → (m : ℕ) × MendTakes root file m × (2 + m ≤ n)
opens_mend root None files n (left, are, is) = (1, refl, omega (arith, is))
opens_mend root (Some text) files n (plan, left, ok, is, are, takes) = (length (paths_of plan) + 4, (plan, ok, is, refl), omega (arith, takes))

-- what is left lies in the stage behind the moves
left_listing : (root : Text) (puts left : List Text) (old new : Files) → IsMovedFrom root puts old new → AreLeft root puts old left → IsListing new (stage_dir root) left
left_listing root puts left old new moved are = record {
  rising = are.rising;
  each = λ q. (
    λ has. (let l = (are.each q).0 has in (l.lies, (l.there.0, moved.rest q l.lies l.unmoved ∙ l.there.1))),
    λ here. (are.each q).1 (
        let unmoved : (i : ℕ) → i < length puts → q ≢ stage_path root i = λ i lt e. none_some (sym (moved.gone i lt) ∙ ap new (sym e) ∙ here.1.1) in
        record { lies = here.0; there = (here.1.0, sym (moved.rest q here.0 unmoved) ∙ here.1.1); unmoved = unmoved }
        ),
  );
}
  where
    none_some : {b : Text} → None ≡ Some b → ⊥
    none_some e = cc

pub opens_clear : (root : Text) (file : Option Text) (old new : Files) (n a b c d : ℕ) → OpensIn root file old n → Costs 2 a b ⊤ → MendsIn root file old new b c
    → ((left : List Text) → IsListing new (stage_dir root) left → Costs (length left + 3) c d ⊥) → Costs n a d ⊥
opens_clear root None old new n a b c d (left, are, is) first (moved, mended) few =
    costs_most (omega (arith, is)) (costs_then (λ none. tt) (λ none. none) (costs_then (λ t. t) (λ t. t) first mended) (few left (left_listing root [] left old new moved are)))
opens_clear root (Some text) old new n a b c d (plan, left, ok, is, are, takes) first (plan', ok', is', moved, mended) few =
    let one : plan' ≡ plan = one_plan root plan' plan ok' ok (sym is' ∙ is) in
    costs_most (omega (arith, takes, ap (λ (p : JournalPlan). length (paths_of p)) one))
    (costs_then (λ none. tt) (λ none. none) (costs_then (λ t. t) (λ t. t) first mended) (few left (left_listing root plan.puts left old new (subst (λ (p : JournalPlan). IsMovedFrom root p.puts old new) one moved) are)))
