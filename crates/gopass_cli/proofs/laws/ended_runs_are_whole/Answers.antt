use Rattle.gopass_cli.proofs.SafeLemmas.{went_whole}
use Rattle.gopass_cli.proofs.laws.ended_runs_are_whole.Goals as goal

pub returns : goal.returns
returns g c opens ring input before old new faults now_faults status went disk memory sink =
    went_whole opens c.args.root.now ring c.args.command.now input before (g.D.Disk.meaning.view old) (g.D.Disk.meaning.view new) faults now_faults status went disk memory sink
