use Rattle.std.proofs.Common.{lit<, rules}
use Rattle.std.proofs.lemmas.Iterator.Splits.{YieldsList-from_str_split}
use Rattle.std.proofs.lemmas.Iterator.{cases_from_all}
use borrow.Author.Tests.{tests}
use Rattle.gopass_base.specs.Parts.{parts}
use Rattle.gopass_base.specs.Paths.{IsPathPart}
use Rattle.gopass_base.proofs.EachPart.{each_is}
use Rattle.gopass_base.proofs.path.has_path_parts.Goals as goal

pub returns : goal.returns
returns c =
    each_is IsPathPart c.all.result (parts c.args.text.now)
    (cases_from_all _ _ c.all.result IsPathPart (λ x. ¬ IsPathPart x) c.all.ensures.ran (YieldsList-from_str_split 47 c.args.text.now (lit< tt) (cc) (cc) (cc)) (λ x q k. search (rules, tests)) (λ x q k. search (rules, tests)))
