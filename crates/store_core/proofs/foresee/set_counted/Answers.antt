use Rattle.store_core.proofs.foresee.set_counted.Goals as goal

pub returns : goal.returns
returns g c = (c.in_ok-was.was', c.in_ok-was.ensures, c.recount.ensures)
