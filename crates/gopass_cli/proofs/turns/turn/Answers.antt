use Rattle.std.proofs.Common.{◌∙◌, ap, sym, subst}
use Rattle.std.specs.Prelude.{Result}
use Rattle.gopass_base.specs.Text.{Text}
use Rattle.store_core.specs.Steps.{just}
use Rattle.store_core.specs.Does.{Does}
use Rattle.store_core.specs.Moment.{all_tools}
use Rattle.store_core.specs.Plans.{Outcome}
use Rattle.request_body.specs.Given.{bytes_of}
use Rattle.gopass_cli.specs.declared.action.Action.{Action}
use Rattle.gopass_cli.specs.Actions.{changes_nothing_by, subject, subject_by}
use Rattle.gopass_cli.specs.Outcomes.{meant}
use Rattle.gopass_cli.specs.Plan.{body_in, action_calls, calls_by, action_plan, plan_by}
use Rattle.gopass_cli.specs.Replies.{Turned}
use Rattle.gopass_cli.proofs.TurnLemmas.{turned_misread, turned_says}
use Rattle.gopass_cli.proofs.turns.turn.Goals as goal

pub returns-in-Ok-clause-turned : goal.returns-in-Ok-clause-turned
returns-in-Ok-clause-turned g c =
    let store = c.args.store.now in
    let new = c.perform-outcome.new.store in
    let before = all_tools g.C.Cipher.meaning c.args.tools.now.items in
    let after = all_tools g.C.Cipher.meaning c.perform-outcome.new.tools.items in
    let action = c.in-Ok.lines.action in
    let body = body_in (bytes_of c.args.request.now.body) in
    let outcome = meant c.perform-outcome.result in
    subst (λ (read : Result Action Outcome). Turned {G = g.D.Disk} (λ ring. plan_by ring read body) (calls_by read) (subject_by read) store new before after c.tell.result) (sym c.in-Ok.ensures.good)
    (turned_says {G = g.D.Disk} (λ ring. action_plan ring action body) (action_calls action) (subject action) store new before after outcome c.tell.result
    (subst (λ (given : Text). Does {G = g.D.Disk} (λ ring. action_plan ring action given) store new before after (just outcome)) c.body_of.ensures c.perform-outcome.ensures.planned)
    c.perform-outcome.ensures.keeps c.tell.ensures)

pub returns-in-Err-clause-turned : goal.returns-in-Err-clause-turned
returns-in-Err-clause-turned g c =
    turned_misread {G = g.D.Disk} c.args.request.now.command (bytes_of c.args.request.now.body) c.args.store.now (all_tools g.C.Cipher.meaning c.args.tools.now.items) (meant c.in-Err.outcome) c.tell_within.result
    (c.args.store.now.vault.at_rest c.requires.free) c.requires.free c.in-Err.ensures.own c.in-Err.ensures.bad c.tell_within.ensures

pub returns-in-Ok-clause-rests : goal.returns-in-Ok-clause-rests
returns-in-Ok-clause-rests g c nothing told = c.perform-outcome.ensures.rests (sym (ap changes_nothing_by c.in-Ok.ensures.good) ∙ nothing) told
