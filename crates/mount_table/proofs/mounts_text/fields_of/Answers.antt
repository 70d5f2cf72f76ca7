use Rattle.std.proofs.Common.{◌∷◌, ◌++◌}
use Rattle.mount_table.specs.MountsText.{flag_of}
use Rattle.gopass_base.proofs.CleanLemmas.{no_cut}
use Rattle.mount_table.proofs.LineLemmas.{no_second}
use Rattle.mount_table.proofs.mounts_text.fields_of.Goals as goal

pub returns-in_err-alias : goal.returns-in_err-alias
returns-in_err-alias c = rw c.from_residual.ensures (λ row good is. no_cut 9 c.args.line.now row.alias (row.dir ++ 9 ∷ flag_of row.git) c.in_err-alias.ensures.cut is)

pub returns-in_err-dir : goal.returns-in_err-dir
returns-in_err-dir c = rw c.from_residual-in_err-dir.ensures (λ row good is. no_second c.args.line.now c.in_ok-alias.alias.now c.in_ok-alias.rest.now row c.in_ok-alias.ensures.cut.0 c.in_ok-alias.ensures.cut.1 c.in_err-dir.ensures.cut good is)
