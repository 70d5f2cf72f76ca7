use Rattle.std.proofs.Common.{◌∙◌, ap, sym, subst, refl}
use Rattle.std.specs.Prelude.{Some, Err}
use Rattle.recipient_files.specs.Ids.{IsId}
use Rattle.recipient_files.proofs.IdLemmas.{id_at-good, id_at-bad}
use Rattle.cipher_port.proofs.standin.read_id.Goals as goal

pub returns-in_default : goal.returns-in_default
returns-in_default c = id_at-bad c.args.bytes.now (λ id. c.in_default.ensures.cases.0 id.utf8)

pub returns-in-Ok-read : goal.returns-in-Ok-read
returns-in-Ok-read c =
    id_at-good c.args.bytes.now (subst IsId c.in-Ok.ensures.cases.0 (c.in-Ok-read.ensures.good refl))
    ∙ ap Some (sym c.in-Ok.ensures.cases.0 ∙ sym c.in-Ok-read.ensures.id)

pub returns-in-Err-Bad : goal.returns-in-Err-Bad
returns-in-Err-Bad c = id_at-bad c.args.bytes.now (λ id. c.in-Err-Bad.ensures.bad (ap Err c.in-Err-Bad.field-0-is) (subst IsId (sym c.in-Ok.ensures.cases.0) id))
