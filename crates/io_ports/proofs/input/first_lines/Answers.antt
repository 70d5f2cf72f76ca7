use Rattle.io_ports.proofs.InputLemmas.{one_first, says_only}
use Rattle.io_ports.proofs.input.first_lines.Goals as goal

pub returns-clause-exact : goal.returns-clause-exact
returns-clause-exact c = one_first

pub returns-clause-says : goal.returns-clause-says
returns-clause-says c = says_only
