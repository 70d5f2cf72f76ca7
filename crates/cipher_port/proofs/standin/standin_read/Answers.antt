use Rattle.std.proofs.Common.{◌∙◌, [], sym, ap}
use Rattle.std.specs.Prelude.{bytes_eq}
use Rattle.std.proofs.lemmas.Bool.{not-true, not-false}
use Rattle.cipher_port.specs.Tool.{Content, made_of}
use Rattle.gopass_base.specs.Lines.{pieces_of}
use Rattle.cipher_port.specs.Standin.{from_recipients, standin_content}
use Rattle.cipher_port.specs.declared.standin.Sealed.{Sealed}
use Rattle.cipher_port.proofs.StandinLemmas.{read_ok, read_none, header_read, header_refused, header_missing}
use Rattle.cipher_port.proofs.standin.standin_read.Goals as goal

abbrev content : Sealed → Content
content sealed = made_of sealed.to sealed.body.items

pub returns-in_default-clause-other : goal.returns-in_default-clause-other
returns-in_default-clause-other c = λ _. header_missing c.args.bytes.now c.in_default.ensures.computed

pub returns-then-ne-clause-other : goal.returns-then-ne-clause-other
returns-then-ne-clause-other c = λ _.
    header_refused c.args.bytes.now c.in-Some.header.now c.in-Some.lines.now c.in-Some.ensures.computed
    (sym (ap (bytes_eq c.in-Some.header.now) c.as_slice.ensures) ∙ not-true (bytes_eq c.in-Some.header.now c.as_slice.result.now) (sym c.ne.ensures ∙ c.if-ne.true))

pub returns-clause-found : goal.returns-clause-found
returns-clause-found c =
    read_ok content c.read_lines.result (from_recipients [] (pieces_of c.in-Some.lines.now)) (standin_content c.args.bytes.now) c.read_lines.ensures
    (header_read c.args.bytes.now c.in-Some.header.now c.in-Some.lines.now c.in-Some.ensures.computed
    (sym (ap (bytes_eq c.in-Some.header.now) c.as_slice.ensures) ∙ not-false (bytes_eq c.in-Some.header.now c.as_slice.result.now) (sym c.ne.ensures ∙ c.if-ne.false)))

pub returns-clause-other : goal.returns-clause-other
returns-clause-other c =
    read_none content c.read_lines.result (from_recipients [] (pieces_of c.in-Some.lines.now)) (standin_content c.args.bytes.now) c.read_lines.ensures
    (header_read c.args.bytes.now c.in-Some.header.now c.in-Some.lines.now c.in-Some.ensures.computed
    (sym (ap (bytes_eq c.in-Some.header.now) c.as_slice.ensures) ∙ not-false (bytes_eq c.in-Some.header.now c.as_slice.result.now) (sym c.ne.ensures ∙ c.if-ne.false)))
