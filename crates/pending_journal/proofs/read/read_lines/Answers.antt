use Rattle.std.proofs.Common.{◌≡◌, ◌≢◌, ap, sym, ◌∙◌, arith, codes, length}
use Rattle.std.specs.Prelude.{Err}
use Rattle.std.proofs.lemmas.Bool.{true≢false}
use Rattle.std.proofs.lemmas.Bool.Decides.{nat_tests}
use Rattle.std.proofs.lemmas.Slice.Eq.{bytes_eq-Decides}
use Rattle.gopass_base.proofs.LineLemmas.{cut_shorter}
use Rattle.pending_journal.specs.Change.{plan_in}
use Rattle.pending_journal.specs.Steps.{journal_start}
use Rattle.pending_journal.proofs.LineNumberLemmas.{line_next, line_past}
use Rattle.pending_journal.proofs.ReadLemmas.{goes_on, ends, nothing, no_end, no_step, goes_past, bad_whole}
use Rattle.pending_journal.proofs.read.read_lines.Goals as goal

pub returns-then-is_empty-clause-text : goal.returns-then-is_empty-clause-text
returns-then-is_empty-clause-text c =
    let is : c.in-Some.line.now ≡ codes "end" = (bytes_eq-Decides c.in-Some.line.now c.as_slice.result.now).0 (sym c.eq.ensures ∙ c.if-eq.true) ∙ c.as_slice.ensures in
    let none : length c.in-Some.after.now ≡ 0 = grind (arith, nat_tests) in
    c.loop-line.change.built.text_is ∙ ends (plan_in c.loop-line.change) (plan_in c.args.change) c.loop-line.rest.now c.in-Some.line.now c.in-Some.after.now c.args.lines.now c.loop-line.invariant.text (sym c.in-Some.ensures.computed) is (nothing c.in-Some.after.now none)

pub returns-then-eq-clause-refuses : goal.returns-then-eq-clause-refuses
returns-then-eq-clause-refuses c =
    let is : c.in-Some.line.now ≡ codes "end" = (bytes_eq-Decides c.in-Some.line.now c.as_slice.result.now).0 (sym c.eq.ensures ∙ c.if-eq.true) ∙ c.as_slice.ensures in
    let some : length c.in-Some.after.now ≢ 0 = grind (arith, nat_tests) in (
      bad_whole c.loop-line.change.root c.args.change.root (journal_start (plan_in c.loop-line.change) c.loop-line.rest.now) (journal_start (plan_in c.args.change) c.args.lines.now) c.loop-line.invariant.root c.loop-line.invariant.text
          (goes_past c.loop-line.change.root (plan_in c.loop-line.change) c.loop-line.rest.now c.in-Some.line.now c.in-Some.after.now c.loop-line.change.built.plan (sym c.in-Some.ensures.computed) is some),
      line_past c.loop-line.change c.loop-line.rest.now c.in-Some.line.now c.in-Some.after.now (journal_start (plan_in c.args.change) c.args.lines.now) _ c.loop-line.invariant.text (sym c.in-Some.ensures.computed) (omega (arith, c.next_line-number.ensures.line)),
    )

pub loop-line-smaller : goal.loop-line-smaller
loop-line-smaller c = cut_shorter 10 c.loop-line.rest.now c.in-Some.line.now c.in-Some.after.now (sym c.in-Some.ensures.computed)

pub loop-line-preserved : goal.loop-line-preserved
loop-line-preserved c = record {
  root = c.in-Ok.ensures.root ∙ c.loop-line.invariant.root;
  text = goes_on (plan_in c.loop-line.change) (plan_in c.read_line.new.change) (plan_in c.args.change) c.loop-line.rest.now c.in-Some.line.now c.in-Some.after.now c.args.lines.now c.loop-line.invariant.text (sym c.in-Some.ensures.computed) c.in-Ok.ensures.step;
}

pub returns-in-Err-Bad-clause-refuses : goal.returns-in-Err-Bad-clause-refuses
returns-in-Err-Bad-clause-refuses c =
    let other : c.in-Some.line.now ≢ codes "end" = λ e. true≢false (sym ((bytes_eq-Decides c.in-Some.line.now c.as_slice.result.now).1 (e ∙ sym c.as_slice.ensures)) ∙ (sym c.eq.ensures ∙ c.if-eq.false)) in (
      bad_whole c.loop-line.change.root c.args.change.root (journal_start (plan_in c.loop-line.change) c.loop-line.rest.now) (journal_start (plan_in c.args.change) c.args.lines.now) c.loop-line.invariant.root c.loop-line.invariant.text
          (no_step c.loop-line.change.root (plan_in c.loop-line.change) c.loop-line.rest.now c.in-Some.line.now c.in-Some.after.now c.loop-line.change.built.plan (sym c.in-Some.ensures.computed) other (c.in-Err-Bad.ensures.bad (ap Err c.in-Err-Bad.field-0-is))),
      line_next c.loop-line.change c.loop-line.rest.now (journal_start (plan_in c.args.change) c.args.lines.now) _ c.loop-line.invariant.text c.next_line-number.ensures.line,
    )

pub returns-clause-refuses : goal.returns-clause-refuses
returns-clause-refuses c = (
  bad_whole c.loop-line.change.root c.args.change.root (journal_start (plan_in c.loop-line.change) c.loop-line.rest.now) (journal_start (plan_in c.args.change) c.args.lines.now) c.loop-line.invariant.root c.loop-line.invariant.text
      (no_end c.loop-line.change.root (plan_in c.loop-line.change) c.loop-line.rest.now c.loop-line.change.built.plan (sym c.in_default.ensures.computed)),
  line_next c.loop-line.change c.loop-line.rest.now (journal_start (plan_in c.args.change) c.args.lines.now) _ c.loop-line.invariant.text c.next_line.ensures.line,
)
