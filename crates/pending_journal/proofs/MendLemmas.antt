-- What a crash of a commit leaves is opened.
use Rattle.std.proofs.Common.{◌≡◌, ◌⊎◌, inl, inr, Option, subst}
use Rattle.gopass_base.specs.Text.{Text}
use Rattle.disk_model.specs.Files.{Files}
use Rattle.pending_journal.specs.Redo.{RecoversBy, RecoversTo, IsBeforeOrAfter}
use Rattle.pending_journal.specs.Faults.{HasBadJournal}
use Rattle.pending_journal.proofs.PlanLemmas.{one_meaning}

pub no_bad_journal : (root : Text) (files now : Files) → RecoversTo root files now → ¬ HasBadJournal root files
no_bad_journal root files now stands (text, is, bad) =
    let by = subst (λ (file : Option Text). RecoversBy root file files now) is stands in
    bad by.0 by.1 by.2

pub one_of_two : (root : Text) (files before after now : Files) → IsBeforeOrAfter root before after files → RecoversTo root files now → (now ≡ before) ⊎ (now ≡ after)
one_of_two root files before after now (inl was) stands = inl (one_meaning root files now before stands was)
one_of_two root files before after now (inr is) stands = inr (one_meaning root files now after stands is)
