use Rattle.std.proofs.Common.{subst}
use Rattle.std.specs.Str.{IsUtf8}
use Rattle.std.proofs.lemmas.Str.{is_utf8-from_IsUtf8}
use Rattle.mount_table.proofs.folder.Folder.copy.Goals as goal

pub returns-clause-good : goal.returns-clause-good
returns-clause-good c = (is_utf8-from_IsUtf8 c.args.self.now (subst IsUtf8 c.text.ensures.text c.text.utf8), c.text.ensures.good)
