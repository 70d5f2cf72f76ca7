use Rattle.std.proofs.Common.{refl, sym, subst}
use Rattle.gopass_base.specs.Text.{Text}
use Rattle.store_state.specs.State.{StandsFor}
use Rattle.store_core.specs.Steps.{just}
use Rattle.store_core.specs.Moment.{moment_of, all_tools}
use Rattle.store_core.specs.Performs.{Performs}
use Rattle.gopass_cli.specs.declared.action.Action.{Action}
use Rattle.gopass_cli.specs.declared.action.Action.TheVariants.{Ls, Find, Mounts, Recipients}
use Rattle.gopass_cli.specs.Actions.{subject}
use Rattle.gopass_cli.specs.Find.{plan_find}
use Rattle.gopass_cli.specs.Ls.{plan_ls}
use Rattle.gopass_cli.specs.Mounts.{plan_mounts}
use Rattle.gopass_cli.specs.Outcomes.{Concerns, meant}
use Rattle.gopass_cli.specs.Plan.{action_plan}
use Rattle.gopass_cli.specs.Recipients.{plan_recipients}
use Rattle.gopass_cli.proofs.TurnLemmas.{only_answers}
use Rattle.gopass_cli.proofs.turns.perform.Goals as goal

pub returns-in-Show-clause-planned : goal.returns-in-Show-clause-planned
returns-in-Show-clause-planned g c told tells ring have start s =
    let store = c.args.store.now in
    subst (λ (action : Action). Performs (StandsFor g.C.Cipher.meaning.opens store.vault.root) store.vault.root (action_plan ring action c.args.body.now start) start (moment_of store (all_tools g.C.Cipher.meaning c.args.tools.now.items))
    (moment_of c.show.new.store (all_tools g.C.Cipher.meaning c.show.new.tools.items)) (just (meant c.show.result))) (sym c.in-Show.is) (c.show.ensures.planned told tells ring have start s)

pub returns-in-Insert-clause-planned : goal.returns-in-Insert-clause-planned
returns-in-Insert-clause-planned g c told tells ring have start s =
    let store = c.args.store.now in
    subst (λ (action : Action). Performs (StandsFor g.C.Cipher.meaning.opens store.vault.root) store.vault.root (action_plan ring action c.args.body.now start) start (moment_of store (all_tools g.C.Cipher.meaning c.args.tools.now.items))
    (moment_of c.insert.new.store (all_tools g.C.Cipher.meaning c.insert.new.tools.items)) (just (meant c.insert.result))) (sym c.in-Insert.is) (c.insert.ensures.planned told tells ring have start s)

pub returns-in-Ls-clause-planned : goal.returns-in-Ls-clause-planned
returns-in-Ls-clause-planned g c told tells ring have start s =
    let store = c.args.store.now in
    let opens = g.C.Cipher.meaning.opens in
    let now = moment_of store (all_tools g.C.Cipher.meaning c.args.tools.now.items) in
    subst (λ (action : Action). Performs (StandsFor opens store.vault.root) store.vault.root (action_plan ring action c.args.body.now start) start now now (just (meant c.ls.result))) (sym c.in-Ls.is)
    (only_answers opens store.vault.root (λ events. plan_ls c.in-Ls.folder c.in-Ls.flat start) start now s (store.vault.at_rest c.requires.free told) (plan_ls c.in-Ls.folder c.in-Ls.flat start).outcome (meant c.ls.result) refl (c.ls.ensures.lists told opens start s))

pub returns-in-Find-clause-planned : goal.returns-in-Find-clause-planned
returns-in-Find-clause-planned g c told tells ring have start s =
    let store = c.args.store.now in
    let opens = g.C.Cipher.meaning.opens in
    let now = moment_of store (all_tools g.C.Cipher.meaning c.args.tools.now.items) in
    subst (λ (action : Action). Performs (StandsFor opens store.vault.root) store.vault.root (action_plan ring action c.args.body.now start) start now now (just (meant c.find.result))) (sym c.in-Find.is)
    (subst (λ (text : Text). Performs (StandsFor opens store.vault.root) store.vault.root (λ events. plan_find text start) start now now (just (meant c.find.result))) c.text.ensures
    (only_answers opens store.vault.root (λ events. plan_find c.text.result.now start) start now s (store.vault.at_rest c.requires.free told) (plan_find c.text.result.now start).outcome (meant c.find.result) refl (c.find.ensures.lists told opens start s)))

pub returns-in-Mounts-clause-planned : goal.returns-in-Mounts-clause-planned
returns-in-Mounts-clause-planned g c told tells ring have start s =
    let store = c.args.store.now in
    let opens = g.C.Cipher.meaning.opens in
    let now = moment_of store (all_tools g.C.Cipher.meaning c.args.tools.now.items) in
    subst (λ (action : Action). Performs (StandsFor opens store.vault.root) store.vault.root (action_plan ring action c.args.body.now start) start now now (just (meant c.mounts.result))) (sym c.in-Mounts.is)
    (only_answers opens store.vault.root (λ events. plan_mounts start) start now s (store.vault.at_rest c.requires.free told) (plan_mounts start).outcome (meant c.mounts.result) refl (c.mounts.ensures.lists told opens start s))

pub returns-in-Recipients-clause-planned : goal.returns-in-Recipients-clause-planned
returns-in-Recipients-clause-planned g c told tells ring have start s =
    let store = c.args.store.now in
    let opens = g.C.Cipher.meaning.opens in
    let now = moment_of store (all_tools g.C.Cipher.meaning c.args.tools.now.items) in
    subst (λ (action : Action). Performs (StandsFor opens store.vault.root) store.vault.root (action_plan ring action c.args.body.now start) start now now (just (meant c.recipients.result))) (sym c.in-Recipients.is)
    (only_answers opens store.vault.root (λ events. plan_recipients start) start now s (store.vault.at_rest c.requires.free told) (plan_recipients start).outcome (meant c.recipients.result) refl (c.recipients.ensures.lists told opens start s))

pub returns-in-Ls-clause-about : goal.returns-in-Ls-clause-about
returns-in-Ls-clause-about g c = subst (λ (action : Action). Concerns (subject action) (meant c.ls.result)) (sym c.in-Ls.is) (c.ls.ensures.about (subject (Ls c.in-Ls.folder c.in-Ls.flat)))

pub returns-in-Find-clause-about : goal.returns-in-Find-clause-about
returns-in-Find-clause-about g c = subst (λ (action : Action). Concerns (subject action) (meant c.find.result)) (sym c.in-Find.is) (c.find.ensures.about (subject (Find c.in-Find.text)))

pub returns-in-Mounts-clause-about : goal.returns-in-Mounts-clause-about
returns-in-Mounts-clause-about g c = subst (λ (action : Action). Concerns (subject action) (meant c.mounts.result)) (sym c.in-Mounts.is) (c.mounts.ensures.about (subject (Mounts)))

pub returns-in-Recipients-clause-about : goal.returns-in-Recipients-clause-about
returns-in-Recipients-clause-about g c = subst (λ (action : Action). Concerns (subject action) (meant c.recipients.result)) (sym c.in-Recipients.is) (c.recipients.ensures.about (subject (Recipients)))
