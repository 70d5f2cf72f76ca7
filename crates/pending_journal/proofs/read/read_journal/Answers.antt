use Rattle.std.proofs.Common.{◌≡◌, IfErr, codes, ◌∙◌, subst}
use Rattle.std.specs.Prelude.{Some}
use Rattle.std.proofs.lemmas.Bool.Decides.{Decides-eqb}
use Rattle.std.proofs.lemmas.Result.{IfOk-weaker}
use Rattle.std.proofs.lemmas.Slice.Eq.{strip_prefix_is}
use Rattle.gopass_base.specs.Text.{Text}
use Rattle.pending_journal.specs.Change.{plan_in}
use Rattle.pending_journal.specs.Faults.{RefusesText}
use Rattle.pending_journal.specs.Steps.{journal_start}
use Rattle.pending_journal.specs.declared.change.Change.{Change}
use Rattle.pending_journal.proofs.ReadLemmas.{starts}
use Rattle.pending_journal.proofs.read.read_journal.Goals as goal

pub returns-in_ok-new-in-Some-clause-text : goal.returns-in_ok-new-in-Some-clause-text
returns-in_ok-new-in-Some-clause-text c =
    let whole = starts c.in_ok-new-in-Some.field-0 c.in-Some.lines.now c.args.text.now c.in_ok-new-in-Some.ensures.puts c.in_ok-new-in-Some.ensures.drops (strip_prefix_is Decides-eqb c.args.text.now (codes "journal 1\n") (Some c.in-Some.lines) c.in-Some.ensures.cases) in
    IfOk-weaker c.read_lines.result (λ (read : Change). read.text.items ≡ journal_start (plan_in c.in_ok-new-in-Some.field-0) c.in-Some.lines.now) (λ (read : Change). read.text.items ≡ c.args.text.now) (λ read is. is ∙ whole) c.read_lines.ensures.text

pub returns-in_ok-new-in-Some-clause-refuses : goal.returns-in_ok-new-in-Some-clause-refuses
returns-in_ok-new-in-Some-clause-refuses c =
    let whole = starts c.in_ok-new-in-Some.field-0 c.in-Some.lines.now c.args.text.now c.in_ok-new-in-Some.ensures.puts c.in_ok-new-in-Some.ensures.drops (strip_prefix_is Decides-eqb c.args.text.now (codes "journal 1\n") (Some c.in-Some.lines) c.in-Some.ensures.cases) in
    subst (λ (root : Text). IfErr c.read_lines.result (RefusesText root c.args.text.now)) c.in_ok-new-in-Some.ensures.root
    (subst (λ (text : Text). IfErr c.read_lines.result (RefusesText c.in_ok-new-in-Some.field-0.root text)) whole c.read_lines.ensures.refuses)
