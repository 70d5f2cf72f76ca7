use Rattle.std.proofs.lemmas.Str.{is_utf8-from_IsUtf8, IsUtf8-from_is_utf8}
use Rattle.gopass_base.proofs.text.as_text.Goals as goal

pub returns-in-Ok : goal.returns-in-Ok
returns-in-Ok c = (c.in-Ok.ensures.cases.0, is_utf8-from_IsUtf8 c.args.bytes.now c.in-Ok.ensures.cases.1)

pub returns-in-Err : goal.returns-in-Err
returns-in-Err c = λ t. c.in-Err.ensures.cases.0 (IsUtf8-from_is_utf8 c.args.bytes.now t)
