use Rattle.std.proofs.Common.{rules}
use Rattle.std.proofs.lemmas.Iterator.{YieldsList-from_slice, cases_from_all}
use borrow.Author.Tests.{tests}
use Rattle.gopass_base.specs.Text.{Text}
use Rattle.mount_table.specs.Prefixes.{Holds}
use Rattle.gopass_base.proofs.EachPart.{each_is}
use Rattle.listing_texts.proofs.tests.are_held.Goals as goal

pub returns : goal.returns
returns c =
    each_is (Holds c.args.folder.now) c.all.result c.args.names.now
    (cases_from_all _ _ c.all.result (Holds c.args.folder.now) (λ (name : Text). ¬ Holds c.args.folder.now name) c.all.ensures.ran (YieldsList-from_slice c.args.names.now cc) (λ x q k. search (rules, tests)) (λ x q k. search (rules, tests)))
