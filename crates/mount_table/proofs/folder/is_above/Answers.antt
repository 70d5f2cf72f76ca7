use Rattle.std.proofs.Common.{◌≡◌, ◌≢◌, ◌∷◌, [], length, drop, sym, ◌∙◌, refl, arith}
use Rattle.std.specs.Prelude.{Some, None}
use Rattle.std.proofs.lemmas.Slice.Eq.{starts_is, strip_prefix_is}
use Rattle.std.proofs.lemmas.Bool.{true≢false, true_from_ne_false}
use Rattle.std.proofs.lemmas.Bool.Decides.{Decides-eqb, nat_tests}
use Rattle.mount_table.proofs.FolderLemmas.{below_of, not_below, root_of}
use Rattle.mount_table.proofs.folder.is_above.Goals as goal

pub returns-then-is_empty : goal.returns-then-is_empty
returns-then-is_empty c =
    let empty : length c.args.folder.now ≡ 0 = grind (arith, nat_tests) in
    (λ _. root_of c.args.folder.now c.args.name.now empty, λ _. refl)

pub returns-in-Some : goal.returns-in-Some
returns-in-Some c =
    let nonempty : length c.args.folder.now ≢ 0 = grind (arith, nat_tests) in
    let was = strip_prefix_is Decides-eqb c.args.name.now c.args.folder.now (Some c.in-Some.rest) c.in-Some.ensures.cases in
    let here = below_of c.args.folder.now c.args.name.now c.in-Some.rest.now nonempty was in
    let slash = starts_is Decides-eqb c.in-Some.rest.now (47 ∷ []) c.starts_with.result c.starts_with.ensures.value in (
      λ t. here.yes (drop 1 c.in-Some.rest.now) (slash.0 t),
      λ holds. true_from_ne_false c.starts_with.result (λ f. here.no (λ more m. true≢false (sym (slash.1 more m) ∙ f)) holds),
    )

pub returns-in-None : goal.returns-in-None
returns-in-None c =
    let nonempty : length c.args.folder.now ≢ 0 = grind (arith, nat_tests) in
    let other = strip_prefix_is Decides-eqb c.args.name.now c.args.folder.now None c.in-None.ensures.cases in
    (λ t. absurd (true≢false (sym t)), λ holds. absurd (not_below c.args.folder.now c.args.name.now nonempty other holds))
