use Rattle.std.proofs.Common.{set, sym, subst, arith}
use Rattle.store_core.specs.Moment.{all_tools}
use Rattle.store_core.specs.Steps.{just}
use Rattle.store_core.specs.Does.{Does, Keeps}
use Rattle.store_core.specs.Plans.{Outcome, outcome_by}
use Rattle.store_core.specs.Show.{plan_show}
use Rattle.gopass_cli.specs.Outcomes.{Concerns}
use Rattle.gopass_cli.proofs.TurnLemmas.{about_by, lifts_does, lifts_keeps}
use Rattle.gopass_cli.proofs.turns.show.Goals as goal

pub returns-clause-planned : goal.returns-clause-planned
returns-clause-planned g c =
    let store = c.args.store.now in
    let tools = c.args.tools.now.items in
    let outcome = outcome_by (λ body. body.items) c.show.result in
    subst (λ (o : Outcome). Does {G = g.D.Disk} (λ ring. plan_show ring c.args.name.now) store c.show.new.self (all_tools g.C.Cipher.meaning tools) (all_tools g.C.Cipher.meaning (set tools 0 c.show.new.tool)) (just o)) (sym c.of_bytes.ensures)
    (lifts_does g.C.Cipher.meaning store c.show.new.self tools c.index_mut.result.now c.show.new.tool (omega (arith, c.requires.some)) c.index_mut.ensures.value (λ ring. plan_show ring c.args.name.now) outcome c.show.ensures.planned)

pub returns-clause-keeps : goal.returns-clause-keeps
returns-clause-keeps g c =
    let store = c.args.store.now in
    let tools = c.args.tools.now.items in
    let outcome = outcome_by (λ body. body.items) c.show.result in
    subst (λ (o : Outcome). Keeps {G = g.D.Disk} 1 store c.show.new.self (all_tools g.C.Cipher.meaning tools) (all_tools g.C.Cipher.meaning (set tools 0 c.show.new.tool)) o) (sym c.of_bytes.ensures)
    (lifts_keeps g.C.Cipher.meaning store c.show.new.self tools c.index_mut.result.now c.show.new.tool (omega (arith, c.requires.some)) c.index_mut.ensures.value 1 outcome c.show.ensures.keeps)

pub returns-clause-about : goal.returns-clause-about
returns-clause-about g c = subst (Concerns c.args.name.now) (sym c.of_bytes.ensures) (about_by c.args.name.now (λ body. body.items) c.show.result c.show.ensures.about)
