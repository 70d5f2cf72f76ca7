-- What fits a room.
use Rattle.std.proofs.Common.{ℕ, ◌+◌, ◌-◌, ◌≡◌, ◌≤◌, ◌++◌, ◌||◌, Bool, min, nat_lt, length, take, sym, ◌∙◌, ap, arith}
use Rattle.std.proofs.lemmas.Bool.Decides.{nat_tests}
use Rattle.std.proofs.Math.Seq.{take-append-add}
use Rattle.std.proofs.lemmas.List.{take_min}
use Rattle.gopass_base.specs.Text.{Text}
use Rattle.io_ports.specs.Kept.{Kept, kept_with}

abbrev kept_as : ℕ → Text → Bool → Kept
kept_as room bytes is_over = record { room = room; bytes = bytes; is_over = is_over }

pub keeps_what_fits : (room : ℕ) (is_over : Bool) (old bytes grown : Text) → length old ≤ room → grown ≡ old ++ take (min (room - length old) (length bytes)) bytes
    → kept_as room grown (is_over || nat_lt (room - length old) (length bytes)) ≡ kept_with (kept_as room old is_over) bytes
keeps_what_fits room is_over old bytes grown inside grew = λ i. kept_as room (first i) (is_over || more i)
  where
    filled : length old + (room - length old) ≡ room
    filled = omega arith

    first : grown ≡ take room (old ++ bytes)
    first = grew ∙ ap (λ l. old ++ l) (take_min (room - length old) bytes) ∙ sym (take-append-add old bytes (room - length old)) ∙ ap (λ n. take n (old ++ bytes)) filled

    more : nat_lt (room - length old) (length bytes) ≡ nat_lt room (length old + length bytes)
    more = grind (arith, nat_tests)
