use Rattle.std.proofs.Common.{◌≢◌, ◌∷◌, [], length, drop, arith}
use Rattle.std.specs.Prelude.{Some, None}
use Rattle.std.proofs.lemmas.Slice.Eq.{starts_is, strip_prefix_is}
use Rattle.std.proofs.lemmas.Bool.Decides.{Decides-eqb, nat_tests}
use Rattle.mount_table.proofs.PrefixLemmas.{prefix_same, prefix_slash, prefix_none}
use Rattle.mount_table.proofs.part.is_prefix.Goals as goal

pub returns-then-is_empty : goal.returns-then-is_empty
returns-then-is_empty c =
    let was = strip_prefix_is Decides-eqb c.args.inner.now c.args.outer.now (Some c.in-Some.rest) c.in-Some.ensures.cases in
    (λ _. prefix_same c.args.outer.now c.args.inner.now c.in-Some.rest.now was (grind (arith, nat_tests)), λ _. c.if-is_empty.true)

pub returns-else-is_empty : goal.returns-else-is_empty
returns-else-is_empty c =
    let was = strip_prefix_is Decides-eqb c.args.inner.now c.args.outer.now (Some c.in-Some.rest) c.in-Some.ensures.cases in
    let some : length c.in-Some.rest.now ≢ 0 = grind (arith, nat_tests) in
    prefix_slash c.args.outer.now c.args.inner.now c.in-Some.rest.now (drop 1 c.in-Some.rest.now) c.starts_with.result was some
    (starts_is Decides-eqb c.in-Some.rest.now (47 ∷ []) c.starts_with.result c.starts_with.ensures.value)

pub returns-in-None : goal.returns-in-None
returns-in-None c =
    (λ t. absurd (cc), λ p. absurd (prefix_none c.args.outer.now c.args.inner.now (strip_prefix_is Decides-eqb c.args.inner.now c.args.outer.now None c.in-None.ensures.cases) p))
