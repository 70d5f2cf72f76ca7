-- What is printed where no sink failed.
use Rattle.std.proofs.Common.{◌≡◌, ◌≢◌, ℕ, inl, inr}
use Rattle.gopass_base.specs.Faults.{Rose}
use Rattle.gopass_cli.specs.declared.status.Status.TheVariants.{SinkFailed}
use Rattle.gopass_cli.specs.Statuses.{code}
use Rattle.gopass_cli.specs.Said.{Said}
use Rattle.gopass_cli.specs.Printed.{Stream, Prints, PrintsAll}

pub prints_all : (said : Said) (status : ℕ) (out out' err err' : Stream) → ¬ Rose out.faults out'.faults → ¬ Rose err.faults err'.faults
    → Prints said status out out' err err' → PrintsAll said status out out' err err'
prints_all said status out out' err err' out_kept err_kept (inl p) = p
prints_all said status out out' err err' out_kept err_kept (inr (inl p)) = absurd (out_kept p.stops.rose)
prints_all said status out out' err err' out_kept err_kept (inr (inr p)) = absurd (err_kept p.stops.rose)

-- a status that is not that of a sink is that of the answer
pub printed_status : (said : Said) (status : ℕ) (out out' err err' : Stream) → Prints said status out out' err err' → status ≢ code SinkFailed → status ≡ said.status
printed_status said status out out' err err' (inl all) other = all.status_is
printed_status said status out out' err err' (inr (inl stops)) other = absurd (other stops.status_is)
printed_status said status out out' err err' (inr (inr stops)) other = absurd (other stops.status_is)
