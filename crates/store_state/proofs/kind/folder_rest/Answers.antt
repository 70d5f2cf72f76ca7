use Rattle.std.proofs.Common.{◌≡◌, ◌++◌, ap, sym, ◌∙◌}
use Rattle.std.specs.Cmp.Lexicographic.{bytes_decides}
use Rattle.std.proofs.lemmas.Bool.{true≢false}
use Rattle.store_state.proofs.KindLemmas.{folder_by_slash, nowhere_without}
use Rattle.store_state.proofs.kind.folder_rest.Goals as goal

pub returns-in-Some : goal.returns-in-Some
returns-in-Some c =
    let (at, found, is, long) = c.in-Some.ensures.cases in
    let whole : c.args.rest.now ≡ c.in-Some.front.now ++ c.args.file.now = found.1 ∙ ap (λ t. t ++ c.args.file.now) (sym is) in
    folder_by_slash c.args.rest.now c.args.file.now c.in-Some.front.now c.before_slash.result whole
    (λ e. true≢false (sym ((bytes_decides c.args.rest.now c.args.file.now).1 e) ∙ (sym c.eq.ensures ∙ c.if-eq.false)))
    c.before_slash.ensures

pub returns-in-None : goal.returns-in-None
returns-in-None c = nowhere_without c.args.rest.now c.args.file.now c.in-None.ensures.cases
