use Rattle.std.proofs.Common.{◌≡◌, ◌+◌, ◌<◌, ◌++◌, ◌∷◌, [], List, length, take, ap, sym, ◌∙◌, subst, arith}
use Rattle.std.specs.Prelude.{Contains}
use Rattle.std.proofs.lemmas.List.{take_more}
use Rattle.std.proofs.lemmas.List.Elements.{Contains-get_or}
use Rattle.gopass_base.specs.Text.{Text}
use Rattle.store_state.specs.Found.{AddsPaths}
use Rattle.store_state.proofs.SeenLemmas.{grown_more}
use Rattle.store_state.proofs.seen.add_paths.Goals as goal

pub loop-path-preserved : goal.loop-path-preserved
loop-path-preserved c below =
    let paths = c.args.paths.now in
    let i = c.loop-path.path-index in
    let item = c.path-item.result in
    let lt : i < length paths = omega arith in
    let (kind, lies, with) = c.in_ok-add_path.ensures (below item (subst (Contains paths) (sym c.path-item.is) (Contains-get_or paths i item lt))) in
    let more : take (i + 1) paths ≡ take i paths ++ item ∷ [] = take_more paths i item lt ∙ ap (λ p. take i paths ++ p ∷ []) (sym c.path-item.is) in
    subst (λ (ps : List Text). AddsPaths c.args.mounts.now c.args.row ps c.args.seen.now c.add_path.new.seen) (sym more)
    (grown_more c.args.mounts.now c.args.row (take i paths) item c.args.seen.now c.loop-path.seen c.add_path.new.seen kind (c.loop-path.invariant below) lies with)
