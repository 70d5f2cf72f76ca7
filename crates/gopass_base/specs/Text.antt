-- Texts are lists of bytes.
use Rattle.std.specs.Prelude.{◌≢◌, ℕ, ◌≤◌, Bool, bytes_eq, List}
use Rattle.std.specs.List.{list_any}

abbrev pub Text : Type 0
Text = List ℕ

-- neither a control byte nor DEL
abbrev pub IsPrintable : ℕ → Type 0
IsPrintable b = (32 ≤ b) × (b ≢ 127)

-- whether this is one of the texts
abbrev pub is_among : List Text → Text → Bool
is_among texts text = list_any (λ one. bytes_eq one text) texts
