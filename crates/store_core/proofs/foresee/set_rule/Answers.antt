use Rattle.std.proofs.Common.{sym, ap, ◌∙◌}
use Rattle.store_core.specs.Edit.{with_row}
use Rattle.store_core.proofs.ForeseeLemmas.{unset_gives}
use Rattle.store_core.proofs.foresee.set_rule.Goals as goal

pub returns-in-None : goal.returns-in-None
returns-in-None c = unset_gives c.args.rules.now c.unset.new.self c.args.folder.now c.unset.result c.unset.ensures ∙ ap (λ ids. with_row c.args.rules.now c.args.folder.now ids) (sym c.in-None.is)
