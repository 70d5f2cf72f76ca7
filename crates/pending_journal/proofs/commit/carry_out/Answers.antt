use Rattle.std.proofs.Common.{arith, None, subst}
use Rattle.disk_model.specs.Files.{Files, put}
use Rattle.disk_model.specs.Disk.{IsDurable}
use Rattle.pending_journal.specs.Redo.{IsAtRest}
use Rattle.pending_journal.specs.Change.{changed}
use Rattle.pending_journal.proofs.CommitLemmas.{after_prepare, after_seal, after_settle, after_finish, is_changed, rests_from, on_ok_then}
use Rattle.pending_journal.proofs.CostLemmas.{costs_next, costs_is, costs_err}
use Rattle.pending_journal.proofs.commit.carry_out.Goals as goal

pub returns-in_err-prepare-clause-any_moment : goal.returns-in_err-prepare-clause-any_moment
returns-in_err-prepare-clause-any_moment g c told =
    after_prepare c.args.change.now.root c.args.change.now c.args.change.now.built _ (c.requires.rests told) _ (c.prepare.ensures.runs told)

pub returns-in_err-seal-clause-any_moment : goal.returns-in_err-seal-clause-any_moment
returns-in_err-seal-clause-any_moment g c told =
    let root = c.args.change.now.root in
    let ok = c.args.change.now.built in
    let rest = c.requires.rests told in
    let v0 = g.D.Disk.meaning.view c.args.disk.now in
    let v1 = g.D.Disk.meaning.view c.prepare.new.disk in
    let v2 = g.D.Disk.meaning.view c.seal.new.disk in
    let first = after_prepare root c.args.change.now ok v0 rest v1 (c.prepare.ensures.runs told) in
    after_seal root c.args.change.now ok v0 rest v1 (c.in_ok-prepare.ensures.ready told) v2 (g.met.D.Disk.sound c.prepare.new.disk told) first (c.seal.ensures.leaves told (c.in_ok-prepare.ensures.only told))

pub returns-in_err-settle-clause-any_moment : goal.returns-in_err-settle-clause-any_moment
returns-in_err-settle-clause-any_moment g c told =
    let root = c.args.change.now.root in
    let ok = c.args.change.now.built in
    let rest = c.requires.rests told in
    let v0 = g.D.Disk.meaning.view c.args.disk.now in
    let v1 = g.D.Disk.meaning.view c.prepare.new.disk in
    let v2 = g.D.Disk.meaning.view c.seal.new.disk in
    let v3 = g.D.Disk.meaning.view c.settle.new.disk in
    let first = after_prepare root c.args.change.now ok v0 rest v1 (c.prepare.ensures.runs told) in
    let ready = c.in_ok-prepare.ensures.ready told in
    let second = after_seal root c.args.change.now ok v0 rest v1 ready v2 (g.met.D.Disk.sound c.prepare.new.disk told) first (c.seal.ensures.leaves told (c.in_ok-prepare.ensures.only told)) in
    after_settle root c.args.change.now ok v0 rest v1 ready v2 (c.in_ok-seal.ensures.sealed told) v3 second (c.settle.ensures.runs told)

pub returns-clause-any_moment : goal.returns-clause-any_moment
returns-clause-any_moment g c told =
    let root = c.args.change.now.root in
    let ok = c.args.change.now.built in
    let rest = c.requires.rests told in
    let v0 = g.D.Disk.meaning.view c.args.disk.now in
    let v1 = g.D.Disk.meaning.view c.prepare.new.disk in
    let v2 = g.D.Disk.meaning.view c.seal.new.disk in
    let v3 = g.D.Disk.meaning.view c.settle.new.disk in
    let v4 = g.D.Disk.meaning.view c.finish.new.disk in
    let first = after_prepare root c.args.change.now ok v0 rest v1 (c.prepare.ensures.runs told) in
    let ready = c.in_ok-prepare.ensures.ready told in
    let second = after_seal root c.args.change.now ok v0 rest v1 ready v2 (g.met.D.Disk.sound c.prepare.new.disk told) first (c.seal.ensures.leaves told (c.in_ok-prepare.ensures.only told)) in
    let sealed = c.in_ok-seal.ensures.sealed told in
    let third = after_settle root c.args.change.now ok v0 rest v1 ready v2 sealed v3 second (c.settle.ensures.runs told) in
    after_finish root c.args.change.now ok v0 rest v1 ready v2 sealed v3 (g.met.D.Disk.sound c.settle.new.disk told) (c.settle.ensures.runs told) (c.in_ok-settle.ensures.carried told) v4 third
    (c.finish.ensures.leaves told (c.in_ok-settle.ensures.only told))

pub returns-clause-made : goal.returns-clause-made
returns-clause-made g c = on_ok_then c.finish.result c.finish.ensures.ended (made g c)
  where
    made : (g : _) (c : goal.After-finish g) → (g.D.Disk.meaning.tells → IsDurable (put (g.D.Disk.meaning.view c.settle.new.disk).files c.args.change.now.journal None) (g.D.Disk.meaning.view c.finish.new.disk)) → g.D.Disk.meaning.tells → IsDurable (changed c.args.change.now (g.D.Disk.meaning.view c.args.disk.now).files) (g.D.Disk.meaning.view c.finish.new.disk)
    made g c ended told =
        let root = c.args.change.now.root in
        let v0 = g.D.Disk.meaning.view c.args.disk.now in
        let v1 = g.D.Disk.meaning.view c.prepare.new.disk in
        let v2 = g.D.Disk.meaning.view c.seal.new.disk in
        let v3 = g.D.Disk.meaning.view c.settle.new.disk in
        let is = is_changed root c.args.change.now c.args.change.now.built v0 (c.requires.rests told) v1 (c.in_ok-prepare.ensures.ready told) v2 (c.in_ok-seal.ensures.sealed told) v3
        (g.met.D.Disk.sound c.settle.new.disk told) (c.settle.ensures.runs told) (c.in_ok-settle.ensures.carried told) in
        subst (λ (f : Files). IsDurable f (g.D.Disk.meaning.view c.finish.new.disk)) is (ended told)

pub returns-clause-at_rest : goal.returns-clause-at_rest
returns-clause-at_rest g c = on_ok_then c.finish.result c.finish.ensures.ended (rests g c)
  where
    rests : (g : _) (c : goal.After-finish g) → (g.D.Disk.meaning.tells → IsDurable (put (g.D.Disk.meaning.view c.settle.new.disk).files c.args.change.now.journal None) (g.D.Disk.meaning.view c.finish.new.disk)) → g.D.Disk.meaning.tells → IsAtRest c.args.change.now.root (g.D.Disk.meaning.view c.finish.new.disk)
    rests g c ended told =
        let root = c.args.change.now.root in
        let v0 = g.D.Disk.meaning.view c.args.disk.now in
        let v1 = g.D.Disk.meaning.view c.prepare.new.disk in
        let v2 = g.D.Disk.meaning.view c.seal.new.disk in
        let v3 = g.D.Disk.meaning.view c.settle.new.disk in
        let is = is_changed root c.args.change.now c.args.change.now.built v0 (c.requires.rests told) v1 (c.in_ok-prepare.ensures.ready told) v2 (c.in_ok-seal.ensures.sealed told) v3
        (g.met.D.Disk.sound c.settle.new.disk told) (c.settle.ensures.runs told) (c.in_ok-settle.ensures.carried told) in
        rests_from root c.args.change.now c.args.change.now.built v0.files (g.D.Disk.meaning.view c.finish.new.disk) (c.requires.rests told).none (subst (λ (f : Files). IsDurable f (g.D.Disk.meaning.view c.finish.new.disk)) is (ended told))

pub returns-in_err-prepare-clause-costs : goal.returns-in_err-prepare-clause-costs
returns-in_err-prepare-clause-costs g c = costs_err c.from_residual.result c.from_residual.ensures.0 (omega arith) c.prepare.ensures.costs

pub returns-in_err-seal-clause-costs : goal.returns-in_err-seal-clause-costs
returns-in_err-seal-clause-costs g c = costs_err c.from_residual-in_err-seal.result c.from_residual-in_err-seal.ensures.0 (omega arith) (costs_next c.in_ok-prepare.ensures.costs c.seal.ensures.costs)

pub returns-in_err-settle-clause-costs : goal.returns-in_err-settle-clause-costs
returns-in_err-settle-clause-costs g c = costs_err c.from_residual-in_err-settle.result c.from_residual-in_err-settle.ensures.0 (omega arith) (costs_next (costs_next c.in_ok-prepare.ensures.costs c.in_ok-seal.ensures.costs) c.settle.ensures.costs)

pub returns-clause-costs : goal.returns-clause-costs
returns-clause-costs g c = costs_is (omega arith) (λ t. t) (costs_next (costs_next (costs_next c.in_ok-prepare.ensures.costs c.in_ok-seal.ensures.costs) c.in_ok-settle.ensures.costs) c.finish.ensures.costs)
