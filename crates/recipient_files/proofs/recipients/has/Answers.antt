use Rattle.std.proofs.Common.{sym, subst}
use Rattle.std.specs.Prelude.{Contains}
use Rattle.std.specs.Bool.{Decides}
use Rattle.recipient_files.proofs.SetLemmas.{is_among_tells}
use Rattle.recipient_files.proofs.recipients.has.Goals as goal

pub returns : goal.returns
returns c = subst (λ b. Decides b (Contains c.args.ids.now c.args.id.now)) (sym c.is_among.ensures) (is_among_tells c.args.ids.now c.args.id.now)
