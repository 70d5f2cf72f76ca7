use Rattle.std.proofs.Common.{◌≡◌, ◌∙◌, ◌&&◌, ap, sym, rules, length}
use Rattle.std.specs.List.{list_all}
use Rattle.std.proofs.lemmas.Bool.{lt-ltb}
use Rattle.std.proofs.lemmas.Iterator.{YieldsList-from_slice}
use Rattle.std.proofs.lemmas.Iterator.Search.{all_from_yields_List}
use borrow.Author.Tests.{tests}
use Rattle.cipher_port.specs.Standin.{is_below}
use Rattle.cipher_port.proofs.standin.has_place.Goals as goal

pub returns-then-ids-lt64 : goal.returns-then-ids-lt64
returns-then-ids-lt64 c =
    let all : c.all.result ≡ list_all (is_below c.args.text.now) c.args.ids.now = all_from_yields_List (is_below c.args.text.now) _ _ c.all.result c.all.ensures.ran (YieldsList-from_slice c.args.ids.now cc) (λ x b q k. search (rules, tests)) in
    all ∙ ap (λ t. t && list_all (is_below c.args.text.now) c.args.ids.now) (sym (lt-ltb (length c.args.ids.now) 64 c.if-ids-lt64.true))
