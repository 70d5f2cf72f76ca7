use Rattle.std.proofs.Common.{rules}
use Rattle.std.proofs.lemmas.Iterator.{YieldsList-from_slice, cases_from_all}
use borrow.Author.Tests.{tests}
use Rattle.mount_table.specs.Mounts.{IsBefore}
use Rattle.mount_table.specs.declared.mounts.Row.{Row}
use Rattle.mount_table.proofs.TableLemmas.{each_row}
use Rattle.mount_table.proofs.mounts_text.stands_behind.Goals as goal

pub returns : goal.returns
returns c =
    each_row (λ (e : Row). IsBefore e c.args.row.now) c.all.result c.args.rows.now
    (cases_from_all _ _ c.all.result (λ (e : Row). IsBefore e c.args.row.now) (λ (e : Row). ¬ IsBefore e c.args.row.now) c.all.ensures.ran (YieldsList-from_slice c.args.rows.now cc) (λ x q k. search (rules, tests)) (λ x q k. search (rules, tests)))
