-- The limit of rules.
use Rattle.std.specs.Prelude.{ℕ}

-- so many folders have a rule at most
abbrev pub most_rules : ℕ
most_rules = 512
