use Rattle.std.proofs.Common.{subst}
use Rattle.std.specs.Str.{IsUtf8}
use Rattle.std.proofs.lemmas.Str.{is_utf8-from_IsUtf8}
use Rattle.pending_journal.proofs.lines.text_of.Goals as goal

pub returns-clause-good : goal.returns-clause-good
returns-clause-good c =
    let is = is_utf8-from_IsUtf8 c.args.path.now (subst IsUtf8 c.text.ensures.text c.text.utf8) in
    (is, c.text.ensures.good)
