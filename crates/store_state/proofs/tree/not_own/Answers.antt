use Rattle.std.proofs.Common.{rules}
use Rattle.std.specs.Prelude.{not, ◌||◌, bytes_eq}
use Rattle.std.proofs.lemmas.Fn.{filter_same}
use borrow.Author.Tests.{tests}
use Rattle.store_state.proofs.TreeLemmas.{neither_is}
use Rattle.store_state.proofs.tree.not_own.Goals as goal

pub returns : goal.returns
returns c = filter_same _ (λ path. not (bytes_eq path c.args.own.now.mounts || bytes_eq path c.args.own.now.pending)) _ (λ x b f' k. search (rules, tests, neither_is)) _ _ c.retain.ensures.filtered
