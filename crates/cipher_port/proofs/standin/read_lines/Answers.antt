use Rattle.std.proofs.Common.{◌≡◌, [], drop, ap, sym, subst, arith}
use Rattle.std.specs.Prelude.{Some, None}
use Rattle.std.proofs.lemmas.Result.{err_from_is_err_and}
use Rattle.cipher_port.specs.Tool.{Content, made_of}
use Rattle.gopass_base.specs.Lines.{pieces_of}
use Rattle.cipher_port.specs.Standin.{with_next, from_recipients, from_body}
use Rattle.cipher_port.specs.StandinReads.{IsSoFar}
use Rattle.cipher_port.specs.StandinLaws.{with_next_gives, none_so_far}
use Rattle.cipher_port.specs.declared.standin.Sealed.{Sealed}
use Rattle.gopass_base.proofs.LineLemmas.{cut_shorter}
use Rattle.cipher_port.proofs.StandinLemmas.{passed_on, same_read, line_taken, line_refused, line_other, lines_done}
use Rattle.cipher_port.proofs.standin.read_lines.Goals as goal

abbrev content : Sealed → Content
content sealed = made_of sealed.to sealed.body.items

pub loop-line-init : goal.loop-line-init
loop-line-init c = record {
  ids = subst IsSoFar (sym c.new-ids.ensures.items) none_so_far;
  rest = ap (λ ids. from_recipients ids (pieces_of c.args.lines.now)) c.new-ids.ensures.items;
}

pub loop-line-smaller : goal.loop-line-smaller
loop-line-smaller c = omega (arith, cut_shorter 10 c.loop-line.rest.now c.in-Some.line.now c.in-Some.after.now (sym c.in-Some.ensures.computed))

pub returns-in_default-strip_prefix : goal.returns-in_default-strip_prefix
returns-in_default-strip_prefix c =
    same_read content c.read_end.result (from_body c.loop-line.ids.items c.in-Some.line.now (pieces_of c.in-Some.after.now)) (from_recipients [] (pieces_of c.args.lines.now)) c.read_end.ensures
    (line_other c.loop-line.ids.items c.loop-line.rest.now c.in-Some.line.now c.in-Some.after.now (from_recipients [] (pieces_of c.args.lines.now)) c.loop-line.invariant.rest c.in-Some.ensures.computed c.in_default-strip_prefix.ensures.cases)

pub returns-in_err-add_id : goal.returns-in_err-add_id
returns-in_err-add_id c =
    let p = err_from_is_err_and c.from_residual.result c.from_residual.ensures.1 in
    rw (p.1, p.2) (passed_on {X = Unit {0}} c.in_err-add_id.field-0.0 (λ _. c.add_id.new.ids.items) content (with_next c.loop-line.ids.items c.in-Some-strip_prefix.text.now) (from_recipients [] (pieces_of c.args.lines.now)) c.in_err-add_id.ensures
    (λ refused. line_refused c.loop-line.ids.items c.loop-line.rest.now c.in-Some.line.now c.in-Some.after.now (from_recipients [] (pieces_of c.args.lines.now)) c.loop-line.invariant.rest c.in-Some.ensures.computed c.in-Some-strip_prefix.ensures.cases.0
    (subst (λ t. with_next c.loop-line.ids.items t ≡ None) c.in-Some-strip_prefix.ensures.cases.1 refused)))

pub loop-line-preserved : goal.loop-line-preserved
loop-line-preserved c =
    let taken : with_next c.loop-line.ids.items (drop 3 c.in-Some.line.now) ≡ Some c.add_id.new.ids.items = subst (λ t. with_next c.loop-line.ids.items t ≡ Some c.add_id.new.ids.items) c.in-Some-strip_prefix.ensures.cases.1 c.in_ok-add_id.ensures in
    record {
      ids = (with_next_gives c.loop-line.ids.items (drop 3 c.in-Some.line.now) c.add_id.new.ids.items c.loop-line.invariant.ids taken).1;
      rest = line_taken c.loop-line.ids.items c.add_id.new.ids.items c.loop-line.rest.now c.in-Some.line.now c.in-Some.after.now (from_recipients [] (pieces_of c.args.lines.now)) c.loop-line.invariant.rest c.in-Some.ensures.computed c.in-Some-strip_prefix.ensures.cases.0 taken;
    }

pub returns : goal.returns
returns c = lines_done c.loop-line.ids.items c.loop-line.rest.now (from_recipients [] (pieces_of c.args.lines.now)) c.loop-line.invariant.rest c.in_default.ensures.computed
