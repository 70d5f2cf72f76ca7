use Rattle.std.proofs.Common.{codes, sym, ◌∙◌}
use Rattle.std.proofs.lemmas.Str.Pattern.{ends_text}
use Rattle.gopass_base.proofs.part.is_sealed_name.Goals as goal

pub returns : goal.returns
returns c =
    let same = ends_text c.ends_with.result (codes ".gpg") c.args.part.now c.ends_with.ensures.cases in
    (λ t. sym same ∙ t, λ t. same ∙ t)
