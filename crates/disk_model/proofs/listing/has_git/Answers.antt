use Rattle.std.proofs.Common.{rules, lit<}
use Rattle.std.specs.Prelude.{bytes_eq, codes}
use Rattle.std.proofs.lemmas.Iterator.Splits.{YieldsList-from_str_split}
use Rattle.std.proofs.lemmas.Iterator.Search.{any_from_yields_List}
use borrow.Author.Tests.{tests}
use Rattle.disk_model.proofs.listing.has_git.Goals as goal

pub returns : goal.returns
returns c = any_from_yields_List (λ part. bytes_eq part (codes ".git")) _ _ c.any.result c.any.ensures.ran (YieldsList-from_str_split 47 c.args.rest.now (lit< tt) (cc) (cc) (cc)) (λ x b q k. search (rules, tests))
