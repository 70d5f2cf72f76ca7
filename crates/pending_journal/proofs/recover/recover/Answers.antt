use Rattle.std.proofs.Common.{rules, ◌≡◌, true, arith, sym, subst, ◌∙◌}
use Rattle.std.specs.Prelude.{⊤}
use Rattle.gopass_base.specs.Text.{Text}
use Rattle.disk_model.specs.Files.{Files}
use Rattle.disk_model.specs.Runs.{Leaves}
use Rattle.pending_journal.specs.Service.{journal_path}
use Rattle.pending_journal.specs.Costs.{OpensIn, MendTakes, IsOpenedIn}
use Rattle.pending_journal.specs.Redo.{RecoversTo, IsAtRest}
use Rattle.pending_journal.specs.Recovery.{IsOldOrAlike}
use Rattle.pending_journal.specs.Faults.{HasBadJournal}
use Rattle.std.proofs.lemmas.Bool.{false≢true}
use Rattle.disk_model.proofs.RunLemmas.{rests_none}
use Rattle.pending_journal.proofs.RecoverLemmas.{mended_any, opened_any, opened_rest, opened_stands}
use Rattle.pending_journal.proofs.CostLemmas.{costs_one, costs_next, costs_zero, costs_most, on_err}
use Rattle.pending_journal.proofs.OpeningLemmas.{opened_in}
use Rattle.pending_journal.proofs.RefusedLemmas.{opens_six, opens_mend, opens_clear, mends_well}
use Rattle.pending_journal.proofs.recover.recover.Goals as goal

pub returns-in_err-clear-clause-any_moment : goal.returns-in_err-clear-clause-any_moment
returns-in_err-clear-clause-any_moment g c told =
    let view = g.D.Disk.meaning.view in
    subst (λ (r : Text). Leaves (IsOldOrAlike r (view c.args.disk.now)) (view c.args.disk.now) (view c.clear.new.disk)) c.in_ok-own.ensures
    (opened_any c.in_ok-own.own.root (view c.args.disk.now) (view c.hold.new.self) (view c.sync.new.disk) (c.hold.ensures.rests told) (c.sync.ensures.syncs told) (view c.mend.new.disk) (g.met.D.Disk.sound c.args.disk.now told) (c.mend.ensures.alike told)
    (view c.clear.new.disk) (c.in_ok-mend.ensures.mended told) (c.clear.ensures.runs told))

pub returns-in_err-mend-clause-any_moment : goal.returns-in_err-mend-clause-any_moment
returns-in_err-mend-clause-any_moment g c told =
    let view = g.D.Disk.meaning.view in
    subst (λ (r : Text). Leaves (IsOldOrAlike r (view c.args.disk.now)) (view c.args.disk.now) (view c.mend.new.disk)) c.in_ok-own.ensures
    (mended_any c.in_ok-own.own.root (view c.args.disk.now) (view c.hold.new.self) (view c.sync.new.disk) (c.hold.ensures.rests told) (c.sync.ensures.syncs told) (view c.mend.new.disk) (g.met.D.Disk.sound c.args.disk.now told) (c.mend.ensures.alike told))

pub returns-clause-any_moment : goal.returns-clause-any_moment
returns-clause-any_moment g c told =
    let view = g.D.Disk.meaning.view in
    subst (λ (r : Text). Leaves (IsOldOrAlike r (view c.args.disk.now)) (view c.args.disk.now) (view c.clear.new.disk)) c.in_ok-own.ensures
    (opened_any c.in_ok-own.own.root (view c.args.disk.now) (view c.hold.new.self) (view c.sync.new.disk) (c.hold.ensures.rests told) (c.sync.ensures.syncs told) (view c.mend.new.disk) (g.met.D.Disk.sound c.args.disk.now told) (c.mend.ensures.alike told)
    (view c.clear.new.disk) (c.in_ok-mend.ensures.mended told) (c.clear.ensures.runs told))

pub returns-clause-at_rest : goal.returns-clause-at_rest
returns-clause-at_rest g c told =
    let view = g.D.Disk.meaning.view in
    subst (λ (r : Text). IsAtRest r (view c.clear.new.disk)) c.in_ok-own.ensures
    (opened_rest c.in_ok-own.own.root (view c.args.disk.now) (view c.hold.new.self) (view c.sync.new.disk) (c.hold.ensures.rests told) (c.sync.ensures.syncs told) (view c.mend.new.disk) (g.met.D.Disk.sound c.args.disk.now told) (c.mend.ensures.alike told)
    (view c.clear.new.disk) (c.in_ok-mend.ensures.mended told) (c.clear.ensures.runs told) (g.met.D.Disk.sound c.clear.new.disk told) (c.in_ok-clear.ensures.only told) (c.in_ok-clear.ensures.cleared told))

pub returns-clause-stands : goal.returns-clause-stands
returns-clause-stands g c told =
    let view = g.D.Disk.meaning.view in
    subst (λ (r : Text). RecoversTo r (view c.args.disk.now).files (view c.clear.new.disk).files) c.in_ok-own.ensures
    (opened_stands c.in_ok-own.own.root (view c.args.disk.now) (view c.hold.new.self) (view c.sync.new.disk) (c.hold.ensures.rests told) (c.sync.ensures.syncs told) (view c.mend.new.disk) (g.met.D.Disk.sound c.args.disk.now told) (c.mend.ensures.alike told)
    (view c.clear.new.disk) (c.in_ok-mend.ensures.mended told) (c.clear.ensures.runs told) (g.met.D.Disk.sound c.clear.new.disk told) (c.in_ok-clear.ensures.cleared told))

pub returns-clause-costs : goal.returns-clause-costs
returns-clause-costs g c told =
    let view = g.D.Disk.meaning.view in
    let calls = g.D.Disk.meaning.calls in
    let root = c.in_ok-own.own.root in
    let found = (view c.sync.new.disk).files in
    let two = costs_next (costs_one c.hold.ensures.counted c.hold.ensures.later) (costs_one c.sync.ensures.counted c.sync.ensures.later) in
    let made = opened_in root (found (journal_path root)) found (view c.mend.new.disk).files _ _ _ _ two (c.in_ok-mend.ensures.costs told) (c.in_ok-clear.ensures.costs told) in
    subst (λ (r : Text). IsOpenedIn r (view c.args.disk.now).files (calls c.args.disk.now) (calls c.clear.new.disk)) c.in_ok-own.ensures
    (subst (λ (f : Files). IsOpenedIn root f (calls c.args.disk.now) (calls c.clear.new.disk)) ((c.sync.ensures.syncs told).files ∙ (c.hold.ensures.rests told).files) made)

pub returns-in_err-own-clause-few : goal.returns-in_err-own-clause-few
returns-in_err-own-clause-few g c = on_err c.from_residual.result (λ told n takes. costs_most {P = ⊤} (omega (arith, opens_six _ _ _ n takes)) (costs_zero _))

pub returns-in_err-hold-clause-few : goal.returns-in_err-hold-clause-few
returns-in_err-hold-clause-few g c = on_err c.from_residual-in_err-hold.result (λ told n takes. costs_most {P = ⊤} (omega (arith, opens_six _ _ _ n takes)) (costs_one c.hold.ensures.counted c.hold.ensures.later))

pub returns-in_err-sync-clause-few : goal.returns-in_err-sync-clause-few
returns-in_err-sync-clause-few g c = on_err c.from_residual-in_err-sync.result (λ told n takes. costs_most {P = ⊤} (omega (arith, opens_six _ _ _ n takes)) (costs_next (costs_one c.hold.ensures.counted c.hold.ensures.later) (costs_one c.sync.ensures.counted c.sync.ensures.later)))

pub returns-in_err-mend-clause-few : goal.returns-in_err-mend-clause-few
returns-in_err-mend-clause-few g c = on_err c.from_residual-in_err-mend.result (λ told n takes.
    let view = g.D.Disk.meaning.view in
    let own = c.in_ok-own.own in
    let root = own.root in
    let start = (view c.args.disk.now).files in
    let found = (view c.sync.new.disk).files in
    let same : found ≡ start = (c.sync.ensures.syncs told).files ∙ (c.hold.ensures.rests told).files in
    let two = costs_next (costs_one c.hold.ensures.counted c.hold.ensures.later) (costs_one {P = true ≡ true} c.sync.ensures.counted c.sync.ensures.later) in
    let takes' : OpensIn root (found (journal_path root)) found n = subst (λ (f : Files). OpensIn root (f (journal_path root)) f n) (sym same) (subst (λ (r : Text). OpensIn r (start (journal_path r)) start n) (sym c.in_ok-own.ensures) takes) in
    let part = opens_mend root (found (journal_path root)) found n takes' in
    costs_most (omega (arith, part.2)) (costs_next two (c.in_err-mend.ensures.few told part.0 (subst (λ (j : Text). MendTakes root (found j) part.0) (sym own.own.journal_is) part.1))))

pub returns-in_err-clear-clause-few : goal.returns-in_err-clear-clause-few
returns-in_err-clear-clause-few g c = on_err c.from_residual-in_err-clear.result (λ told n takes.
    let view = g.D.Disk.meaning.view in
    let own = c.in_ok-own.own in
    let root = own.root in
    let start = (view c.args.disk.now).files in
    let found = (view c.sync.new.disk).files in
    let same : found ≡ start = (c.sync.ensures.syncs told).files ∙ (c.hold.ensures.rests told).files in
    let two = costs_next (costs_one c.hold.ensures.counted c.hold.ensures.later) (costs_one {P = ⊤} c.sync.ensures.counted c.sync.ensures.later) in
    let takes' : OpensIn root (found (journal_path root)) found n = subst (λ (f : Files). OpensIn root (f (journal_path root)) f n) (sym same) (subst (λ (r : Text). OpensIn r (start (journal_path r)) start n) (sym c.in_ok-own.ensures) takes) in
    opens_clear root (found (journal_path root)) found (view c.mend.new.disk).files n _ _ _ _ takes' two (c.in_ok-mend.ensures.costs told) (c.in_err-clear.ensures.few told))

pub returns-in_err-mend-clause-three : goal.returns-in_err-mend-clause-three
returns-in_err-mend-clause-three g c k is =
    let two = costs_next (costs_one c.hold.ensures.counted c.hold.ensures.later) (costs_one {P = true ≡ true} c.sync.ensures.counted c.sync.ensures.later) in
    costs_next two (costs_one (c.in_err-mend.ensures.counted k (search rules)) c.mend.ensures.later)

pub returns-in_err-own-clause-bad : goal.returns-in_err-own-clause-bad
returns-in_err-own-clause-bad g c = on_err c.from_residual.result (λ told bad. costs_most {P = ⊤} (omega arith) (costs_zero _))

pub returns-in_err-hold-clause-bad : goal.returns-in_err-hold-clause-bad
returns-in_err-hold-clause-bad g c = on_err c.from_residual-in_err-hold.result (λ told bad. costs_most {P = ⊤} (omega arith) (costs_one c.hold.ensures.counted c.hold.ensures.later))

pub returns-in_err-sync-clause-bad : goal.returns-in_err-sync-clause-bad
returns-in_err-sync-clause-bad g c = on_err c.from_residual-in_err-sync.result (λ told bad. costs_most {P = ⊤} (omega arith) (costs_next (costs_one c.hold.ensures.counted c.hold.ensures.later) (costs_one c.sync.ensures.counted c.sync.ensures.later)))

pub returns-in_err-mend-clause-bad : goal.returns-in_err-mend-clause-bad
returns-in_err-mend-clause-bad g c = on_err c.from_residual-in_err-mend.result (λ told bad.
    let view = g.D.Disk.meaning.view in
    let root = c.in_ok-own.own.root in
    let same : (view c.sync.new.disk).files ≡ (view c.args.disk.now).files = (c.sync.ensures.syncs told).files ∙ (c.hold.ensures.rests told).files in
    let two = costs_next (costs_one c.hold.ensures.counted c.hold.ensures.later) (costs_one {P = true ≡ true} c.sync.ensures.counted c.sync.ensures.later) in
    let bad' : HasBadJournal root (view c.sync.new.disk).files = subst (λ (f : Files). HasBadJournal root f) (sym same) (subst (λ (r : Text). HasBadJournal r (view c.args.disk.now).files) (sym c.in_ok-own.ensures) bad) in
    costs_most (omega arith) (costs_next two (c.in_err-mend.ensures.bad told bad')))

pub returns-in_err-clear-clause-bad : goal.returns-in_err-clear-clause-bad
returns-in_err-clear-clause-bad g c = on_err c.from_residual-in_err-clear.result (λ told bad.
    let view = g.D.Disk.meaning.view in
    let root = c.in_ok-own.own.root in
    let same : (view c.sync.new.disk).files ≡ (view c.args.disk.now).files = (c.sync.ensures.syncs told).files ∙ (c.hold.ensures.rests told).files in
    let bad' : HasBadJournal root (view c.sync.new.disk).files = subst (λ (f : Files). HasBadJournal root f) (sym same) (subst (λ (r : Text). HasBadJournal r (view c.args.disk.now).files) (sym c.in_ok-own.ensures) bad) in
    absurd (mends_well root (view c.sync.new.disk).files _ _ _ (c.in_ok-mend.ensures.costs told) bad'))

pub returns-in_err-own-clause-unlocked : goal.returns-in_err-own-clause-unlocked
returns-in_err-own-clause-unlocked g c = on_err c.from_residual.result (λ free. (costs_most {P = ⊤} (omega arith) (costs_zero _), λ told. rests_none (g.D.Disk.meaning.view c.args.disk.now)))

pub returns-in_err-hold-clause-unlocked : goal.returns-in_err-hold-clause-unlocked
returns-in_err-hold-clause-unlocked g c = on_err c.from_residual-in_err-hold.result (λ free. (costs_most {P = ⊤} (omega arith) (costs_one c.hold.ensures.counted c.hold.ensures.later), λ told. c.hold.ensures.rests told))

pub returns-in_err-sync-clause-unlocked : goal.returns-in_err-sync-clause-unlocked
returns-in_err-sync-clause-unlocked g c = on_err c.from_residual-in_err-sync.result (λ free. absurd (false≢true (sym free ∙ c.sync.ensures.held ∙ c.in_ok-hold.ensures.taken)))

pub returns-in_err-mend-clause-unlocked : goal.returns-in_err-mend-clause-unlocked
returns-in_err-mend-clause-unlocked g c = on_err c.from_residual-in_err-mend.result (λ free. absurd (false≢true (sym free ∙ c.mend.ensures.held ∙ c.sync.ensures.held ∙ c.in_ok-hold.ensures.taken)))

pub returns-in_err-clear-clause-unlocked : goal.returns-in_err-clear-clause-unlocked
returns-in_err-clear-clause-unlocked g c = on_err c.from_residual-in_err-clear.result (λ free. absurd (false≢true (sym free ∙ c.clear.ensures.held ∙ c.mend.ensures.held ∙ c.sync.ensures.held ∙ c.in_ok-hold.ensures.taken)))
