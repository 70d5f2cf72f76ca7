use Rattle.std.proofs.Common.{refl, ap}
use Rattle.std.specs.Prelude.{Err}
use Rattle.mount_table.specs.FaultOf.{folder_fault}
use Rattle.mount_table.proofs.FaultOfLemmas.{folder_none, folder_some}
use Rattle.gopass_cli.specs.Outcomes.{meant}
use Rattle.gopass_cli.proofs.ActionLemmas.{misread}
use Rattle.gopass_cli.proofs.action.folder_in.Goals as goal

pub returns-in-Ok-clause-good : goal.returns-in-Ok-clause-good
returns-in-Ok-clause-good c = (c.in-Ok.ensures.folder, folder_none c.args.word.now (c.in-Ok.ensures.good refl))

pub returns-in-Err-clause-bad : goal.returns-in-Err-clause-bad
returns-in-Err-clause-bad c = misread (folder_fault c.args.word.now) c.args.word.now c.in-Err.fault (meant c.misnamed.result)
    (λ bad is. folder_some c.args.word.now bad (c.in-Err.ensures.bad bad (ap Err is)) (c.in-Err.ensures.fault bad (ap Err is))) c.misnamed.ensures.bad c.misnamed.ensures.full
