use Rattle.std.proofs.Common.{◌≡◌, true, subst}
use Rattle.mount_table.specs.NameFaults.{IsFault}
use Rattle.mount_table.specs.declared.name.BadName.{BadName}
use Rattle.mount_table.proofs.NameLemmas.{name_of, fault_no_name}
use Rattle.mount_table.proofs.name.Name.read.Goals as goal

pub invariant_of-result : goal.invariant_of-result
invariant_of-result c = rw c.in_ok-of-in-None.ensures (name_of c.args.text.now c.in-None.ensures.0 c.in-None.ensures.1)

pub returns-in-Some-clause-bad : goal.returns-in-Some-clause-bad
returns-in-Some-clause-bad c bad is =
    let same : c.in-Some.bad ≡ bad = cc in
    fault_no_name c.args.text.now bad (subst (λ (b : BadName). IsFault true c.args.text.now b) same c.in-Some.ensures)

pub returns-in_ok-of-in-None-clause-good : goal.returns-in_ok-of-in-None-clause-good
returns-in_ok-of-in-None-clause-good c _ = name_of c.args.text.now c.in-None.ensures.0 c.in-None.ensures.1
