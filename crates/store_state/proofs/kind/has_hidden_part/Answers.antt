use Rattle.std.proofs.Common.{lit<, rules}
use Rattle.std.proofs.lemmas.Iterator.Splits.{YieldsList-from_str_split}
use Rattle.std.proofs.lemmas.Iterator.{cases_from_any}
use borrow.Author.Tests.{tests}
use Rattle.gopass_base.specs.Parts.{parts, IsHidden}
use Rattle.store_state.proofs.KindLemmas.{some_is}
use Rattle.store_state.proofs.kind.has_hidden_part.Goals as goal

pub returns : goal.returns
returns c =
    some_is IsHidden c.any.result (parts c.args.rest.now)
    (cases_from_any _ _ c.any.result IsHidden (λ x. ¬ IsHidden x) c.any.ensures.ran (YieldsList-from_str_split 47 c.args.rest.now (lit< tt) (cc) (cc) (cc)) (λ x q k. search (rules, tests)) (λ x q k. search (rules, tests)))
