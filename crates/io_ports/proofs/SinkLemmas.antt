-- What a sink takes, put after put.
use Rattle.std.proofs.Common.{ℕ, ◌+◌, ◌-◌, ◌≡◌, ◌++◌, length, take, drop, Option, sym, ◌∙◌, ap, subst}
use Rattle.std.proofs.Math.Seq.{take-add}
use Rattle.std.proofs.lemmas.List.{append_assoc, take_rest}
use Rattle.gopass_base.specs.Text.{Text}
use Rattle.io_ports.specs.Sink.{Took}
use Rattle.io_ports.proofs.ToldLemmas.{told_two}

abbrev grown_by : Text → Text → Text → Type 0
grown_by bytes was is = is ≡ was ++ bytes

took_two : (a b c : Option Text) (xs ys : Text) → Took a b xs → Took b c ys → Took a c (xs ++ ys)
took_two a b c xs ys f g = told_two (grown_by xs) (grown_by ys) (grown_by (xs ++ ys)) (λ x y z p q. q ∙ ap (λ l. l ++ ys) p ∙ append_assoc x xs ys) a b c f g

-- the first `done` bytes, and then n of the rest
pub took_more : (a b c : Option Text) (done n : ℕ) (bytes : Text)
    → Took a b (take done bytes) → Took b c (take n (take (length bytes - done) (drop done bytes))) → Took a c (take (done + n) bytes)
took_more a b c done n bytes f g =
    let P : Text → Type 0 = λ l. Took a c l in
    let Q : Text → Type 0 = λ l. Took b c (take n l) in
    let h : Took b c (take n (drop done bytes)) = subst Q (take_rest bytes done) g in
    subst P (sym (take-add done n bytes)) (took_two a b c (take done bytes) (take n (drop done bytes)) f h)
