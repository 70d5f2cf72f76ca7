-- What holds of a stream at two moments, where it tells its bytes.
use Rattle.std.specs.Prelude.{⊤, Option, None, Some}
use Rattle.gopass_base.specs.Text.{Text}

-- this holds of what it told before and of what it tells now, where it tells both; one that stopped telling does not begin again
abbrev pub Told : (Text → Text → Type 0) → Option Text → Option Text → Type 0
Told Holds None None = ⊤
Told Holds None (Some after) = ⊥
Told Holds (Some before) None = ⊤
Told Holds (Some before) (Some after) = Holds before after
