use Rattle.std.proofs.Common.{◌≡◌, ◌≢◌, ◌≤◌, true, false, [], ◌∙◌, length, ap, sym, subst, arith, Vec, Global}
use Rattle.std.proofs.lemmas.Bool.{eq-eqb, ne_eqb}
use Rattle.std.proofs.lemmas.Bool.Decides.{nat_tests}
use Rattle.std.proofs.lemmas.Result.{err_from_is_err_and}
use Rattle.gopass_base.specs.Lines.{pieces_of}
use Rattle.gopass_base.specs.Order.{IsSetOf}
use Rattle.recipient_files.specs.Ids.{Ids}
use Rattle.recipient_files.specs.RuleText.{bad_from, ids_from, ids_of, first_bad_line}
use Rattle.recipient_files.specs.RuleReads.{AreSomeIds}
use Rattle.recipient_files.specs.declared.id.Id.{Id}
use Rattle.recipient_files.proofs.RuleLemmas.{passed_on}
use Rattle.recipient_files.proofs.ReadLemmas.{bad_line_first, bad_line_none}
use Rattle.recipient_files.proofs.RecipientsLemmas.{recipients_of_set}
use Rattle.recipient_files.proofs.recipients.Recipients.read.Goals as goal

pub returns-in_err-ids : goal.returns-in_err-ids
returns-in_err-ids c =
    let p = err_from_is_err_and c.from_residual.result c.from_residual.ensures.1 in
    rw (p.1, p.2) (passed_on {X = Vec Id Global} {Y = Ids} (λ ids. (ids.items ≡ ids_from [] (pieces_of c.args.bytes.now)) × AreSomeIds ids.items) (λ set. IsSetOf set (ids_of c.args.bytes.now)) c.in_err-ids.field-0.0 (bad_from 1 [] (pieces_of c.args.bytes.now)) (first_bad_line c.args.bytes.now) c.in_err-ids.ensures
    (λ b is. bad_line_first c.args.bytes.now b is))

pub returns-then-is_empty : goal.returns-then-is_empty
returns-then-is_empty c =
    let (good, (same, so_far)) = c.in_ok-ids.ensures in
    let none : length c.in_ok-ids.ids.items ≡ 0 = grind (arith, nat_tests) in
    bad_line_none c.args.bytes.now true good (eq-eqb (length (ids_from [] (pieces_of c.args.bytes.now))) 0 (sym (ap length same) ∙ none))

pub invariant_of-result : goal.invariant_of-result
invariant_of-result c =
    let (good, (same, so_far)) = c.in_ok-ids.ensures in
    let few = so_far.few in
    let fewer : length c.set_of.result.items ≤ length c.in_ok-ids.ids.items = c.set_of.ensures.few in
    let some : length c.in_ok-ids.ids.items ≢ 0 = grind (arith, nat_tests) in
    recipients_of_set c.set_of.result.items c.in_ok-ids.ids.items c.set_of.ensures.set (λ none. some (ap length none)) (omega (arith, few, fewer)) (c.set_of.ensures.each so_far.each)

pub returns : goal.returns
unfolding ids_of
returns c =
    let (good, (same, so_far)) = c.in_ok-ids.ensures in
    let some : length c.in_ok-ids.ids.items ≢ 0 = grind (arith, nat_tests) in (
      bad_line_none c.args.bytes.now false good (ne_eqb (length (ids_from [] (pieces_of c.args.bytes.now))) 0 (λ none. some (ap length same ∙ none))),
      subst (IsSetOf c.set_of.result.items) same c.set_of.ensures.set,
    )
