use Rattle.std.proofs.Common.{◌-◌, ◌∷◌, [], length, take}
use Rattle.std.proofs.lemmas.Slice.Eq.{ends_is}
use Rattle.std.proofs.lemmas.Bool.Decides.{Decides-eqb}
use Rattle.request_body.proofs.body.has_lf.Goals as goal

pub returns : goal.returns
returns c =
    let line = c.args.line.now in
    let lf = ends_is Decides-eqb line (10 ∷ []) c.ends_with.result c.ends_with.ensures.value in
    (λ t. (take (length line - 1) line, lf.0 t), λ has. lf.1 has.0 has.1)
