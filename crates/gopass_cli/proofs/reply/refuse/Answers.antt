use Rattle.std.proofs.Common.{rules, ◌≡◌, ◌∙◌, ap, sym, subst}
use Rattle.gopass_cli.specs.declared.status.Status.{Status}
use Rattle.gopass_cli.specs.declared.status.Status.TheVariants.{NoMemory}
use Rattle.gopass_cli.specs.Replies.{said_in, Says}
use Rattle.gopass_cli.specs.Said.{Said, refusal_text, refused}
use Rattle.gopass_cli.specs.Statuses.{status_of}
use Rattle.gopass_cli.proofs.SaidLemmas.{said_with_text}
use Rattle.gopass_cli.proofs.reply.refuse.Goals as goal

pub returns : goal.returns
returns c =
    let subject = c.args.subject.now in
    let refusal = c.args.refusal.now in
    let text = refusal_text subject refusal in
    let other : c.status_of-status.result ≡ NoMemory → ⊥ = λ e. search rules in
    subst (λ (wanted : Said). Says wanted (said_in c.refuse_by.result)) (sym (said_with_text subject refusal (λ e. other (c.status_of-status.ensures ∙ ap status_of e))))
    (subst (λ (status : Status). Says (refused status text) (said_in c.refuse_by.result)) c.status_of-status.ensures (c.refuse_by.ensures text c.text_of.ensures))
