use Rattle.mount_table.proofs.LineLemmas.{one_text, no_bad_line, one_bad_line}
use Rattle.mount_table.proofs.mounts.one_text.Goals as goal

pub returns-clause-same : goal.returns-clause-same
returns-clause-same c = one_text

pub returns-clause-good : goal.returns-clause-good
returns-clause-good c = no_bad_line

pub returns-clause-one_bad_line : goal.returns-clause-one_bad_line
returns-clause-one_bad_line c = one_bad_line
