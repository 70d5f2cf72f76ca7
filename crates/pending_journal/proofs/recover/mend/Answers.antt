use Rattle.std.proofs.Common.{◌≡◌, Option, None, Some, refl, subst, arith}
use Rattle.std.specs.Prelude.{⊤, MatchOption}
use Rattle.gopass_base.specs.Text.{Text}
use Rattle.disk_model.specs.Runs.{Leaves}
use Rattle.pending_journal.specs.Redo.{IsAlike}
use Rattle.pending_journal.specs.declared.change.Change.{Change}
use Rattle.pending_journal.proofs.RecoverLemmas.{redo_alike}
use Rattle.pending_journal.proofs.CostLemmas.{costs_one, costs_is, costs_next, costs_most, on_err}
use Rattle.pending_journal.proofs.OpeningLemmas.{asked_none, asked_some}
use Rattle.pending_journal.proofs.RefusedLemmas.{mend_one, mend_most, reads_well}
use Rattle.pending_journal.proofs.recover.mend.Goals as goal

pub returns-in_ok-redo-in-Some-clause-alike : goal.returns-in_ok-redo-in-Some-clause-alike
returns-in_ok-redo-in-Some-clause-alike g c told =
    let v0 = g.D.Disk.meaning.view c.args.disk.now in
    let v1 = g.D.Disk.meaning.view c.find_journal.new.disk in
    let v2 = g.D.Disk.meaning.view c.redo.new.disk in
    let own = c.args.own.now in
    let found = subst (λ (o : Option Change). MatchOption o (g.D.Disk.meaning.tells → v0.files own.journal ≡ None) (λ change. (change.root ≡ own.root) × (g.D.Disk.meaning.tells → v0.files own.journal ≡ Some change.text.items)))
    c.in-Some.is c.in_ok-find_journal.ensures.found in
    redo_alike own.root v0 v1 v2 (c.find_journal.ensures.rests told) (c.requires.only told)
    (subst (λ (r : Text). Leaves (IsAlike r v1.files) v1 v2) found.0 (c.redo.ensures.alike told))

pub returns-in_err-redo-in-Some-clause-alike : goal.returns-in_err-redo-in-Some-clause-alike
returns-in_err-redo-in-Some-clause-alike g c told =
    let v0 = g.D.Disk.meaning.view c.args.disk.now in
    let v1 = g.D.Disk.meaning.view c.find_journal.new.disk in
    let v2 = g.D.Disk.meaning.view c.redo.new.disk in
    let own = c.args.own.now in
    let found = subst (λ (o : Option Change). MatchOption o (g.D.Disk.meaning.tells → v0.files own.journal ≡ None) (λ change. (change.root ≡ own.root) × (g.D.Disk.meaning.tells → v0.files own.journal ≡ Some change.text.items)))
    c.in-Some.is c.in_ok-find_journal.ensures.found in
    redo_alike own.root v0 v1 v2 (c.find_journal.ensures.rests told) (c.requires.only told)
    (subst (λ (r : Text). Leaves (IsAlike r v1.files) v1 v2) found.0 (c.redo.ensures.alike told))

pub returns-in-None-clause-costs : goal.returns-in-None-clause-costs
returns-in-None-clause-costs g c told =
    let f0 = (g.D.Disk.meaning.view c.args.disk.now).files in
    let own = c.args.own.now in
    let none = subst (λ (o : Option Change). MatchOption o (g.D.Disk.meaning.tells → f0 own.journal ≡ None) (λ change. (change.root ≡ own.root) × (g.D.Disk.meaning.tells → f0 own.journal ≡ Some change.text.items)))
    c.in-None.is c.in_ok-find_journal.ensures.found in
    asked_none own.root own.journal f0 _ _ _ own.own.journal_is (none told) (c.find_journal.ensures.rests told).files (costs_one c.find_journal.ensures.counted c.find_journal.ensures.later)

pub returns-in_ok-redo-in-Some-clause-costs : goal.returns-in_ok-redo-in-Some-clause-costs
returns-in_ok-redo-in-Some-clause-costs g c told =
    let f0 = (g.D.Disk.meaning.view c.args.disk.now).files in
    let f1 = (g.D.Disk.meaning.view c.find_journal.new.disk).files in
    let own = c.args.own.now in
    let change = c.in-Some.change in
    let found = subst (λ (o : Option Change). MatchOption o (g.D.Disk.meaning.tells → f0 own.journal ≡ None) (λ change. (change.root ≡ own.root) × (g.D.Disk.meaning.tells → f0 own.journal ≡ Some change.text.items)))
    c.in-Some.is c.in_ok-find_journal.ensures.found in
    asked_some own.root own.journal change change.built f0 f1 _ _ _ _ found.0 own.own.journal_is (found.1 told) (c.find_journal.ensures.rests told).files (c.in_ok-redo-in-Some.ensures.moved told)
    (costs_one c.find_journal.ensures.counted c.find_journal.ensures.later) (costs_is refl (λ t. refl) c.in_ok-redo-in-Some.ensures.costs)

pub returns-in_err-find_journal-clause-few : goal.returns-in_err-find_journal-clause-few
returns-in_err-find_journal-clause-few g c = on_err c.from_residual.result (λ told n takes. costs_most {P = ⊤} (mend_one _ _ n takes) (costs_one c.find_journal.ensures.counted c.find_journal.ensures.later))

pub returns-in_err-redo-in-Some-clause-few : goal.returns-in_err-redo-in-Some-clause-few
returns-in_err-redo-in-Some-clause-few g c = on_err c.from_residual-in_err-redo-in-Some.result (λ told n takes.
    let f0 = (g.D.Disk.meaning.view c.args.disk.now).files in
    let own = c.args.own.now in
    let change = c.in-Some.change in
    let found = subst (λ (o : Option Change). MatchOption o (g.D.Disk.meaning.tells → f0 own.journal ≡ None) (λ change. (change.root ≡ own.root) × (g.D.Disk.meaning.tells → f0 own.journal ≡ Some change.text.items)))
    c.in-Some.is c.in_ok-find_journal.ensures.found in
    costs_most (mend_most own.root (f0 own.journal) change change.built n found.0 (found.1 told) takes) (costs_next (costs_one c.find_journal.ensures.counted c.find_journal.ensures.later) c.redo.ensures.costs))

pub returns-in_err-find_journal-clause-bad : goal.returns-in_err-find_journal-clause-bad
returns-in_err-find_journal-clause-bad g c = on_err c.from_residual.result (λ told bad. costs_most {P = ⊤} (omega arith) (costs_one c.find_journal.ensures.counted c.find_journal.ensures.later))

pub returns-in_err-redo-in-Some-clause-bad : goal.returns-in_err-redo-in-Some-clause-bad
returns-in_err-redo-in-Some-clause-bad g c = on_err c.from_residual-in_err-redo-in-Some.result (λ told bad.
    let f0 = (g.D.Disk.meaning.view c.args.disk.now).files in
    let own = c.args.own.now in
    let change = c.in-Some.change in
    let found = subst (λ (o : Option Change). MatchOption o (g.D.Disk.meaning.tells → f0 own.journal ≡ None) (λ change. (change.root ≡ own.root) × (g.D.Disk.meaning.tells → f0 own.journal ≡ Some change.text.items)))
    c.in-Some.is c.in_ok-find_journal.ensures.found in
    absurd (reads_well own.root own.journal f0 change change.built found.0 own.own.journal_is (found.1 told) bad))
