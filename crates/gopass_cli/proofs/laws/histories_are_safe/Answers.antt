use Rattle.gopass_cli.proofs.HistoryLemmas.{history_found, history_kept, history_same}
use Rattle.gopass_cli.proofs.laws.histories_are_safe.Goals as goal

pub returns-clause-stands : goal.returns-clause-stands
returns-clause-stands g c told opens first states disk past = history_found opens c.args.root.now g.D.Disk.meaning (λ d. g.met.D.Disk.sound d told) first states disk past

pub returns-clause-kept : goal.returns-clause-kept
returns-clause-kept g c opens first states disk past kept = history_kept opens c.args.root.now g.D.Disk.meaning first states disk past kept

pub returns-clause-others : goal.returns-clause-others
returns-clause-others g c told opens first states disk past files start = history_same opens c.args.root.now g.D.Disk.meaning (λ d. g.met.D.Disk.sound d told) first states disk past files start
