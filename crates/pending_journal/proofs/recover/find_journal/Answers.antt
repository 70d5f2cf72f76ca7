use Rattle.std.proofs.Common.{◌≡◌, Some, subst}
use Rattle.gopass_base.specs.Text.{Text}
use Rattle.disk_model.specs.Answers.{Reads}
use Rattle.disk_model.specs.declared.disk.Got.{Got}
use Rattle.pending_journal.proofs.LengthLemmas.{long_bad}
use Rattle.pending_journal.proofs.LineNumberLemmas.{line_first}
use Rattle.pending_journal.proofs.recover.find_journal.Goals as goal

pub returns-in-Long-clause-refuses : goal.returns-in-Long-clause-refuses
returns-in-Long-clause-refuses g c told =
    let files = (g.D.Disk.meaning.view c.args.disk.now).files in
    let own = c.args.own.now in
    let long = subst (λ (x : Got). Reads (files own.journal) 20000000 x) c.in-Long.is (c.in_ok-read.ensures.got told) in
    let there = subst (λ (j : Text). files j ≡ Some long.0) own.own.journal_is long.1 in
    ((long.0, there, long_bad own.root long.0 long.2), (long.0, there, line_first long.0))
