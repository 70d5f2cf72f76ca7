use Rattle.std.proofs.Common.{◌++◌, ◌∷◌, [], sym, ◌∙◌, ap, subst}
use Rattle.std.proofs.lemmas.Bool.{true≢false}
use Rattle.gopass_base.specs.Text.{Text}
use Rattle.request_body.specs.Bodies.{HasLf}
use Rattle.request_body.proofs.BodyLemmas.{line_with, line_without}
use Rattle.request_body.proofs.body.ended.Goals as goal

pub returns-then-has_lf : goal.returns-then-has_lf
returns-then-has_lf c = line_with c.args.line.items c.requires.one (subst HasLf c.deref.ensures.value (c.has_lf.ensures.0 c.if-has_lf.true))

pub returns : goal.returns
returns c =
    let has_none = λ (has : HasLf c.args.line.items). true≢false (sym (c.has_lf.ensures.1 (subst HasLf (sym c.deref.ensures.value) has)) ∙ c.if-has_lf.false) in
    c.in_ok-push.ensures.items ∙ ap (λ (l : Text). l ++ 10 ∷ []) (line_without c.args.line.items c.requires.one has_none)
