use Rattle.std.specs.Prelude.{option_map}
use Rattle.path_rules.proofs.AffectedLemmas.{governs_here}
use Rattle.path_rules.proofs.rules.Rules.governing_in.Goals as goal

pub returns : goal.returns
returns c = governs_here c.args.self.now c.args.mounts.now c.args.name.now c.resolve.result.row c.resolve.result.from (option_map (λ set. set.now) c.governing.result) c.rows.ensures.table c.resolve.ensures.mount c.resolve.ensures.from c.governing.ensures.rule
