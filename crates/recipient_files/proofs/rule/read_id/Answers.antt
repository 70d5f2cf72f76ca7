use Rattle.std.proofs.Common.{◌∙◌, ap, sym, subst, refl}
use Rattle.std.specs.Prelude.{Err}
use Rattle.recipient_files.specs.Ids.{IsId}
use Rattle.recipient_files.proofs.RuleLemmas.{not_text, good_text, bad_text}
use Rattle.recipient_files.proofs.rule.read_id.Goals as goal

pub returns-in_default : goal.returns-in_default
returns-in_default c = not_text c.args.bytes.now c.in_default.ensures.cases.0

pub returns-in-Ok-read : goal.returns-in-Ok-read
returns-in-Ok-read c =
    let good : IsId c.args.bytes.now = subst IsId c.in-Ok.ensures.cases.0 (c.in-Ok-read.ensures.good refl) in
    let same = c.in-Ok-read.ensures.id ∙ c.in-Ok.ensures.cases.0 in
    (good_text c.args.bytes.now good, (same, subst IsId (sym same) good))

pub returns-in-Err-Bad : goal.returns-in-Err-Bad
returns-in-Err-Bad c = bad_text c.args.bytes.now c.in-Ok.ensures.cases.1 (λ id. c.in-Err-Bad.ensures.bad (ap Err c.in-Err-Bad.field-0-is) (subst IsId (sym c.in-Ok.ensures.cases.0) id))
