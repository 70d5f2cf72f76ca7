-- The limits of a body and of sealed bytes.
use Rattle.std.specs.Prelude.{ℕ, ◌*◌}

-- so many bytes a body has at most
abbrev pub most_body : ℕ
most_body = 32768

-- so many bytes sealed bytes have at most: a longer file opens to nothing
abbrev pub most_sealed : ℕ
most_sealed = 131072

-- so many digits stand for a body at most, two for each byte
abbrev pub most_digits : ℕ
most_digits = 2 * most_body
