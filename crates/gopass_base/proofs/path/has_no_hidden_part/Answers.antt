use Rattle.std.proofs.Common.{lit<, rules}
use Rattle.std.proofs.lemmas.Iterator.Splits.{YieldsList-from_str_split}
use Rattle.std.proofs.lemmas.Iterator.{cases_from_any}
use borrow.Author.Tests.{tests}
use Rattle.gopass_base.specs.Parts.{parts, IsHidden}
use Rattle.gopass_base.proofs.EachPart.{none_is}
use Rattle.gopass_base.proofs.path.has_no_hidden_part.Goals as goal

pub returns : goal.returns
returns c =
    none_is IsHidden c.any.result (parts c.args.text.now)
    (cases_from_any _ _ c.any.result IsHidden (λ x. ¬ IsHidden x) c.any.ensures.ran (YieldsList-from_str_split 47 c.args.text.now (lit< tt) (cc) (cc) (cc)) (λ x q k. search (rules, tests)) (λ x q k. search (rules, tests)))
