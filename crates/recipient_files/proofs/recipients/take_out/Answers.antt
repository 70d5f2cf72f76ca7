use Rattle.std.proofs.Common.{rules}
use Rattle.std.specs.Prelude.{not, bytes_eq}
use Rattle.std.proofs.lemmas.Fn.{filter_same}
use borrow.Author.Tests.{tests}
use Rattle.recipient_files.proofs.recipients.take_out.Goals as goal

pub returns : goal.returns
returns c = filter_same _ (λ one. not (bytes_eq one c.args.id.now)) _ (λ x b f' k. search (rules, tests)) _ _ c.retain.ensures.filtered
