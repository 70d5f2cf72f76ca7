use Rattle.std.proofs.Common.{rules, ◌≤◌, length}
use Rattle.std.proofs.lemmas.Result.{err_from_is_err_and}
use Rattle.request_body.specs.Bodies.{input_of}
use Rattle.request_body.proofs.BodyLemmas.{all_fault, all_body}
use Rattle.request_body.proofs.body.read_rest.Goals as goal

pub returns-in_err-read_all-clause-taken : goal.returns-in_err-read_all-clause-taken
returns-in_err-read_all-clause-taken g c =
    let p = err_from_is_err_and c.from_residual.result c.from_residual.ensures.1 in
    let e = c.in_err-read_all.ensures in
    rw (p.1, p.2) (all_fault c.in_err-read_all.field-0.0 (input_of g.S.Source.meaning c.args.input.now c.read_all.new.input) e.read e.counts (e.ends.stays (λ no. absurd (cc))) (λ is. e.cause.failed (search rules)))

pub returns-clause-taken : goal.returns-clause-taken
returns-clause-taken g c =
    let bytes = c.in_ok-read_all.field-0 in
    let e = c.in_ok-read_all.ensures in
    let short : length bytes.items ≤ 16777216 = search rules in
    all_body bytes (input_of g.S.Source.meaning c.args.input.now c.read_all.new.input) short e.read e.counts e.ends
