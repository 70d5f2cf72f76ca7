use Rattle.std.proofs.Common.{◌≡◌, [], ◌∙◌, sym, Vec, Global, arith}
use Rattle.std.specs.Prelude.{Some, None, option_map}
use Rattle.std.proofs.lemmas.Result.{err_from_is_err_and}
use Rattle.gopass_base.specs.Lines.{pieces_of}
use Rattle.gopass_base.proofs.LineLemmas.{cut_shorter}
use Rattle.recipient_files.specs.RuleText.{bad_at, left_of, line_fault, with_line, bad_from, ids_from}
use Rattle.recipient_files.specs.RuleReads.{AreSomeIds}
use Rattle.recipient_files.specs.declared.id.Id.{Id}
use Rattle.recipient_files.proofs.RuleLemmas.{passed_on, bad_taken, ids_taken, bad_refused, bad_last, ids_last}
use Rattle.recipient_files.proofs.rule.read_lines.Goals as goal

pub loop-line-smaller : goal.loop-line-smaller
loop-line-smaller c = omega (arith, cut_shorter 10 c.loop-line.rest.now c.in-Some.line.now c.in-Some.after.now (sym c.in-Some.ensures.computed))

pub loop-line-preserved : goal.loop-line-preserved
loop-line-preserved c =
    let (good, (more, so_far)) = c.in_ok-add_numbered.ensures in
    record {
      counted = (let shorter = cut_shorter 10 c.loop-line.rest.now c.in-Some.line.now c.in-Some.after.now (sym c.in-Some.ensures.computed) in omega (arith, c.loop-line.invariant.counted));
      ids = so_far;
      same = ids_taken c.loop-line.ids.items c.add_numbered.new.ids.items c.loop-line.rest.now c.in-Some.line.now c.in-Some.after.now c.in-Some.ensures.computed more ∙ c.loop-line.invariant.same;
      bad = bad_taken c.loop-line.number c.loop-line.ids.items c.add_numbered.new.ids.items c.loop-line.rest.now c.in-Some.line.now c.in-Some.after.now c.in-Some.ensures.computed good more ∙ c.loop-line.invariant.bad;
    }

pub returns-in_err-add_numbered : goal.returns-in_err-add_numbered
returns-in_err-add_numbered c =
    let p = err_from_is_err_and c.from_residual.result c.from_residual.ensures.1 in
    rw (p.1, p.2) (passed_on {X = Unit {0}} {Y = Vec Id Global} (λ _. (c.add_numbered.new.ids.items ≡ with_line c.loop-line.ids.items (left_of c.in-Some.line.now)) × AreSomeIds c.add_numbered.new.ids.items) (λ ids. (ids.items ≡ ids_from [] (pieces_of c.args.bytes.now)) × AreSomeIds ids.items) c.in_err-add_numbered.field-0.0
    (option_map (bad_at c.loop-line.number) (line_fault c.loop-line.ids.items (left_of c.in-Some.line.now))) (bad_from 1 [] (pieces_of c.args.bytes.now)) c.in_err-add_numbered.ensures
    (λ b is. sym c.loop-line.invariant.bad ∙ bad_refused c.loop-line.number c.loop-line.ids.items c.loop-line.rest.now c.in-Some.line.now c.in-Some.after.now b c.in-Some.ensures.computed is))

pub returns-in_err-add_numbered-2 : goal.returns-in_err-add_numbered-2
returns-in_err-add_numbered-2 c =
    let p = err_from_is_err_and c.from_residual-in_err-add_numbered-2.result c.from_residual-in_err-add_numbered-2.ensures.1 in
    rw (p.1, p.2) (passed_on {X = Unit {0}} {Y = Vec Id Global} (λ _. (c.add_numbered-2.new.ids.items ≡ with_line c.loop-line.ids.items (left_of c.loop-line.rest.now)) × AreSomeIds c.add_numbered-2.new.ids.items) (λ ids. (ids.items ≡ ids_from [] (pieces_of c.args.bytes.now)) × AreSomeIds ids.items) c.in_err-add_numbered-2.field-0.0
    (option_map (bad_at c.loop-line.number) (line_fault c.loop-line.ids.items (left_of c.loop-line.rest.now))) (bad_from 1 [] (pieces_of c.args.bytes.now)) c.in_err-add_numbered-2.ensures
    (λ b is. sym c.loop-line.invariant.bad ∙ bad_last c.loop-line.number c.loop-line.ids.items c.loop-line.rest.now (Some b) c.in_default.ensures.computed is))

pub returns : goal.returns
returns c =
    let (good, (more, so_far)) = c.in_ok-add_numbered-2.ensures in (
      sym c.loop-line.invariant.bad ∙ bad_last c.loop-line.number c.loop-line.ids.items c.loop-line.rest.now None c.in_default.ensures.computed good,
      (more ∙ ids_last c.loop-line.ids.items c.loop-line.rest.now c.in_default.ensures.computed ∙ c.loop-line.invariant.same, so_far),
    )
