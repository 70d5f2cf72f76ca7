use Rattle.gopass_base.proofs.TextLemmas.{joined_again, cut_again}
use Rattle.gopass_base.proofs.part.parts_of_texts.Goals as goal

pub returns-clause-text : goal.returns-clause-text
returns-clause-text c = joined_again

pub returns-clause-parts : goal.returns-clause-parts
returns-clause-parts c = cut_again
