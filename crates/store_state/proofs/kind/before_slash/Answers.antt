use Rattle.std.proofs.Common.{◌≡◌, ◌∷◌, [], length, ap, sym, ◌∙◌, lit<, arith}
use Rattle.std.specs.Prelude.{Some}
use Rattle.std.proofs.lemmas.Bool.Decides.{nat_tests}
use Rattle.std.proofs.lemmas.List.{append_cancel_right}
use Rattle.std.proofs.lemmas.Str.Pattern.{strip_suffix_char}
use Rattle.store_state.proofs.kind.before_slash.Goals as goal

pub returns-then-is_empty : goal.returns-then-is_empty
returns-then-is_empty c =
    let was = strip_suffix_char 47 c.args.text.now (Some c.in-Some.front) c.in-Some.ensures.cases (lit< tt) in
    let empty : length c.in-Some.front.now ≡ 0 = grind (arith, nat_tests) in
    λ front some e. absurd (omega (arith, some, empty, ap length (append_cancel_right front c.in-Some.front.now (47 ∷ []) (sym e ∙ was))))
