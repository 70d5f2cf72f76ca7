use Rattle.std.proofs.Common.{◌≡◌, ◌∙◌, ◌&&◌, ap, sym, rules, length}
use Rattle.std.specs.List.{list_all}
use Rattle.std.proofs.lemmas.Bool.{le-leb}
use Rattle.std.proofs.lemmas.Iterator.{YieldsList-from_slice}
use Rattle.std.proofs.lemmas.Iterator.Search.{all_from_yields_List}
use borrow.Author.Tests.{tests}
use Rattle.cipher_port.specs.Standin.{is_lower_digit}
use Rattle.cipher_port.proofs.standin.are_body_digits.Goals as goal

pub returns-then-digits-le65536 : goal.returns-then-digits-le65536
returns-then-digits-le65536 c =
    let all : c.all.result ≡ list_all is_lower_digit c.args.digits.now = all_from_yields_List is_lower_digit _ _ c.all.result c.all.ensures.ran (YieldsList-from_slice c.args.digits.now cc) (λ x b q k. search (rules, tests)) in
    all ∙ ap (λ t. t && list_all is_lower_digit c.args.digits.now) (sym (le-leb (length c.args.digits.now) 65536 c.if-digits-le65536.true))
