use Rattle.std.proofs.Common.{rules}
use Rattle.std.proofs.lemmas.Iterator.{YieldsList-from_slice, IsFirst-from_position}
use borrow.Author.Tests.{tests}
use Rattle.mount_table.specs.Prefixes.{Nest}
use Rattle.mount_table.specs.declared.mounts.Row.{Row}
use Rattle.mount_table.proofs.TableLemmas.{first_nest}
use Rattle.mount_table.proofs.mounts.first_nest.Goals as goal

pub returns : goal.returns
returns c =
    first_nest c.position.result c.args.rows.now c.args.dir.now
    (IsFirst-from_position _ _ c.position.result (λ (row : Row). Nest row.dir c.args.dir.now) (λ (row : Row). ¬ Nest row.dir c.args.dir.now) c.position.ensures.ran (YieldsList-from_slice c.args.rows.now cc) (λ x q k. search (rules, tests)) (λ x q k. search (rules, tests)))
