use Rattle.std.proofs.Common.{◌∙◌}
use Rattle.text_search.proofs.SearchLemmas.{found_where_had}
use Rattle.text_search.proofs.search.has_text.Goals as goal

pub returns : goal.returns
returns c = c.is_some.ensures ∙ found_where_had c.args.text.now c.args.bytes.now c.find.result c.find.ensures
