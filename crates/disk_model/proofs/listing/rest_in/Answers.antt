use Rattle.std.proofs.Common.{◌≡◌, ◌≢◌, ℕ, List, ◌∷◌, ◌++◌, ap, sym, ◌∙◌}
use Rattle.disk_model.proofs.ListingLemmas.{rest_nowhere, rest_by_slash, weaker}
use Rattle.disk_model.proofs.listing.rest_in.Goals as goal

pub returns-in-Some : goal.returns-in-Some
returns-in-Some c =
    let (at, found, is, long) = c.in-Some.ensures.cases in
    let whole : c.args.path.now ≡ c.args.dir.now ++ c.in-Some.behind.now = found.1 ∙ ap (λ t. c.args.dir.now ++ t) (sym is) in
    rest_by_slash c.args.dir.now c.args.path.now c.in-Some.behind.now c.strip_prefix-in-Some.result whole
    (weaker c.strip_prefix-in-Some.result ((rest : List ℕ) → c.in-Some.behind.now ≢ 47 ∷ rest) _ (λ x. c.in-Some.behind.now ≡ 47 ∷ x.now) (λ x (at, found, is, long). found.1 ∙ ap (λ t. 47 ∷ t) (sym is)) c.strip_prefix-in-Some.ensures.cases)

pub returns-in-None : goal.returns-in-None
returns-in-None c = rest_nowhere c.args.dir.now c.args.path.now c.in-None.ensures.cases
