use Rattle.std.proofs.Common.{ap, sym, ◌∙◌}
use Rattle.pending_journal.specs.Service.{without_service}
use Rattle.store_state.proofs.OpeningLemmas.{pending_shown, read_none}
use Rattle.store_state.proofs.opening.find_no_pending.Goals as goal

pub returns-clause-pending : goal.returns-clause-pending
returns-clause-pending g c told =
    let files = (g.D.Disk.meaning.view c.args.vault.now.disk).files in
    let start = c.args.vault.now.root in
    let none = read_none (without_service start files c.args.own.now.pending) c.in_ok-got.got (c.in_ok-got.ensures.got told) c.if-is_there.ensures in
    sym (pending_shown start files) ∙ (ap (without_service start files) (sym c.requires.pending_is) ∙ none)
