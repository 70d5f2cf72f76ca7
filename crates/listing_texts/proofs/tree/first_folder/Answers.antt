use Rattle.std.proofs.Common.{lit<}
use Rattle.std.proofs.lemmas.Str.Pattern.{split_parts}
use Rattle.listing_texts.proofs.TreeLemmas.{first_of}
use Rattle.listing_texts.proofs.tree.first_folder.Goals as goal

pub returns : goal.returns
returns c = first_of c.args.text.now c.split_once.result (split_parts 47 c.args.text.now c.split_once.result c.split_once.ensures.cases (lit< tt))
