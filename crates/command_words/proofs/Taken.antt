-- The options that a command has stay those that it has.
use Rattle.std.proofs.Common.{◌≡◌, Bool, true, false, ◌&&◌, ◌||◌, not, refl}
use Rattle.command_words.specs.declared.options.Flag.{Flag}
use Rattle.command_words.specs.declared.options.Flag.TheVariants.{Flat, Force, Multi}
use Rattle.command_words.specs.declared.options.Flags.{Flags}
use Rattle.command_words.specs.Options.{has, with}
use Rattle.command_words.specs.Invocations.{only}

granted : (a b : Bool) → (not a || b) ≡ false → (a && true) ≡ true
granted true b good = refl
granted false b good = absurd (cc)

pub taken_more : (these flags : Flags) (flag : Flag) → (not (has these flag) || has flags flag) ≡ false → only these flags ≡ flags → only these (with flags flag) ≡ with flags flag
taken_more these flags Flat good taken = λ i. record (taken i) { flat = granted these.flat flags.flat good i }
taken_more these flags Force good taken = λ i. record (taken i) { force = granted these.force flags.force good i }
taken_more these flags Multi good taken = λ i. record (taken i) { multi = granted these.multi flags.multi good i }
