use Rattle.std.proofs.Common.{◌≡◌, ◌++◌, [], ◌∷◌, Some, ◌∙◌}
use Rattle.store_core.specs.Entries.{rules_in, secrets_in, templates_in}
use Rattle.store_core.proofs.insert.edit_of.Goals as goal

pub returns : goal.returns
returns c =
    let e = c.new-edit.ensures in
    let pushed : c.push.new.self.items ≡ (c.args.name.now, Some c.args.sealed) ∷ [] = c.in_ok-push.ensures.items ∙ (λ i. e.secrets i ++ (c.in_ok-copy.ensures i, Some c.args.sealed) ∷ []) in
    λ i. rules_in (e.rules i) ++ (secrets_in (pushed i) ++ templates_in (e.templates i))
