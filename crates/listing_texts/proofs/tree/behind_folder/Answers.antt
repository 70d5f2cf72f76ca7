use Rattle.std.proofs.Common.{sym}
use Rattle.listing_texts.proofs.TreeLemmas.{begins_so}
use Rattle.listing_texts.proofs.tree.behind_folder.Goals as goal

pub returns-in-Some : goal.returns-in-Some
returns-in-Some c = begins_so c.args.text.now c.in-Some.first.now c.in-Some.after.now c.args.folder.now c.in-Some.ensures (sym c.if-eq.ensures)
