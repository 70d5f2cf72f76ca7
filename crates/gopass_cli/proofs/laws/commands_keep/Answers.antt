use Rattle.gopass_cli.proofs.KeptLemmas.{plan_kept}
use Rattle.gopass_cli.proofs.laws.commands_keep.Goals as goal

pub returns : goal.returns
returns c ring body state events kept = plan_kept ring c.args.command.now body state events kept
