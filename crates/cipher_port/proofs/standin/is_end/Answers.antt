use Rattle.std.proofs.Common.{◌∙◌, ap}
use Rattle.std.specs.Prelude.{bytes_eq}
use Rattle.cipher_port.proofs.StandinLemmas.{end_tells}
use Rattle.cipher_port.proofs.standin.is_end.Goals as goal

pub returns : goal.returns
returns c = c.eq.ensures ∙ (ap (bytes_eq c.args.rest.now) c.as_slice.ensures ∙ end_tells c.args.rest.now)
