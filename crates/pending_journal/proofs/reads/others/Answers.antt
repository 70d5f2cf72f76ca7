use Rattle.std.proofs.Common.{rules}
use Rattle.std.specs.Prelude.{not}
use Rattle.std.proofs.lemmas.Fn.{filter_same}
use borrow.Author.Tests.{tests}
use Rattle.pending_journal.specs.Service.{is_service}
use Rattle.pending_journal.proofs.reads.others.Goals as goal

pub returns-clause-others : goal.returns-clause-others
returns-clause-others c = filter_same _ (λ path. not (is_service c.args.root.now path)) _ (λ x b f' k. search (rules, tests)) _ _ c.retain.ensures.filtered
