-- A tool in memory.
use Rattle.std.specs.Prelude.{◌≡◌}
use Rattle.gopass_base.specs.Calls.{Calls}
use Rattle.cipher_port.specs.Tool.{Ring}
use Rattle.cipher_port.specs.declared.standin.StandinFault.{StandinFault}
use Rattle.cipher_port.specs.declared.standin.StandinFault.TheVariants as read
use Rattle.cipher_port.specs.declared.cipher.UnsealFault.{UnsealFault}
use Rattle.cipher_port.specs.declared.cipher.UnsealFault.TheVariants.{NotSealed, NoMemory}
use Rattle.cipher_port.specs.declared.cipher.WhomFault.{WhomFault}
use Rattle.cipher_port.specs.declared.cipher.WhomFault.TheVariants as whom

-- its ring and its calls
pub record Tool : Type 0 where
  pub ring : Ring
  pub calls : Calls

-- the fault of a tool that says why a stand-in was not read, of `open` and of `whom`
abbrev pub UnsealGives : StandinFault → UnsealFault → Type 0
UnsealGives read.NotSealed fault = fault ≡ NotSealed
UnsealGives read.NoMemory fault = fault ≡ NoMemory

abbrev pub WhomGives : StandinFault → WhomFault → Type 0
WhomGives read.NotSealed fault = fault ≡ whom.NotSealed
WhomGives read.NoMemory fault = fault ≡ whom.NoMemory
