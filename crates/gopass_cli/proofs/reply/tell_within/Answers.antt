use Rattle.std.proofs.Common.{◌≡◌, sym, subst}
use Rattle.std.specs.Prelude.{IfOk, string_bytes}
use Rattle.gopass_base.specs.Text.{Text}
use Rattle.gopass_cli.specs.declared.outcome.Outcome.{Outcome as Given}
use Rattle.gopass_cli.specs.Outcomes.{meant}
use Rattle.gopass_cli.specs.Said.{said_of}
use Rattle.gopass_cli.specs.Texts.{bad_name}
use Rattle.gopass_cli.specs.Replies.{said_in, Says}
use Rattle.gopass_cli.proofs.reply.tell_within.Goals as goal

pub returns-in-Misnamed : goal.returns-in-Misnamed
returns-in-Misnamed c =
    subst (λ (outcome : Given). Says (said_of c.args.subject.now (meant outcome)) (said_in c.refuse_by.result)) (sym c.in-Misnamed.is)
    (c.refuse_by.ensures (bad_name c.in-Misnamed.at c.in-Misnamed.word)
    (subst (λ (word : Text). IfOk c.bad_name-text.result (λ t. string_bytes t ≡ bad_name c.in-Misnamed.at word)) c.text.ensures c.bad_name-text.ensures))
