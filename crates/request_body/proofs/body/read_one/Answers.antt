use Rattle.std.proofs.Common.{rules, ◌<◌, ◌≤◌, ◌≡◌, length}
use Rattle.std.proofs.lemmas.Result.{err_from_is_err_and}
use Rattle.request_body.specs.Bodies.{input_of}
use Rattle.request_body.proofs.BodyLemmas.{line_fault, line_missing, line_over, line_unended, line_body}
use Rattle.request_body.proofs.body.read_one.Goals as goal

pub returns-in_err-line-clause-taken : goal.returns-in_err-line-clause-taken
returns-in_err-line-clause-taken g c =
    let p = err_from_is_err_and c.from_residual.result c.from_residual.ensures.1 in
    let e = c.in_err-line.ensures in
    rw (p.1, p.2) (line_fault c.in_err-line.field-0.0 (input_of g.S.Source.meaning c.args.input.now c.read_line.new.input) e.read e.counts (e.ends.stays (λ no. no)) (λ is. e.cause.failed (search rules)))

pub returns-then-is_empty-clause-taken : goal.returns-then-is_empty-clause-taken
returns-then-is_empty-clause-taken g c =
    let line = c.in_ok-line.line in
    let e = c.in_ok-line.ensures in
    let none : length line.items ≡ 0 = search rules in
    line_missing line (input_of g.S.Source.meaning c.args.input.now c.read_line.new.input) e.read e.counts e.ends none

pub returns-then-len-gt-MAX_INPUT-clause-taken : goal.returns-then-len-gt-MAX_INPUT-clause-taken
returns-then-len-gt-MAX_INPUT-clause-taken g c =
    let line = c.in_ok-line.line in
    let e = c.in_ok-line.ensures in
    let more : 16777216 < length line.items = search rules in
    let few : length line.items ≤ 16777217 = search rules in
    line_over line (input_of g.S.Source.meaning c.args.input.now c.read_line.new.input) e.read e.counts e.ends more few e.line

pub returns-in_err-ended-clause-taken : goal.returns-in_err-ended-clause-taken
returns-in_err-ended-clause-taken g c =
    let p = err_from_is_err_and c.from_residual-in_err-ended.result c.from_residual-in_err-ended.ensures.1 in
    let line = c.in_ok-line.line in
    let e = c.in_ok-line.ensures in
    let short : length line.items ≤ 16777216 = search rules in
    rw (p.1, p.2) (line_unended line (input_of g.S.Source.meaning c.args.input.now c.read_line.new.input) e.read e.counts e.ends short)

pub returns-clause-taken : goal.returns-clause-taken
returns-clause-taken g c =
    let line = c.in_ok-line.line in
    let e = c.in_ok-line.ensures in
    let some : 0 < length line.items = search rules in
    let short : length line.items ≤ 16777216 = search rules in
    line_body line (input_of g.S.Source.meaning c.args.input.now c.read_line.new.input) e.read e.counts e.ends c.in_ok-ended.field-0 some short e.line c.in_ok-ended.ensures
