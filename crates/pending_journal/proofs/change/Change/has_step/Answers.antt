use Rattle.std.proofs.Common.{sym, ◌∙◌}
use Rattle.pending_journal.proofs.BuildLemmas.{step_named}
use Rattle.pending_journal.proofs.change.Change.has_step.Goals as goal

pub returns : goal.returns
returns c =
    let old = c.args.self.now in
    let same = step_named old.paths old.puts.items old.drops.items c.args.path.now old.paths_are in
    (λ t. same.0 (sym c.contains.ensures ∙ t), λ has. c.contains.ensures ∙ same.1 has)
