use Rattle.std.proofs.Common.{◌++◌, ap, ◌∙◌, append_assoc}
use Rattle.std.specs.Prelude.{codes}
use Rattle.std.specs.List.{repeat}
use Rattle.listing_texts.proofs.TreeLemmas.{repeat_next}
use Rattle.listing_texts.proofs.tree.indent.Goals as goal

pub loop-above-preserved : goal.loop-above-preserved
loop-above-preserved c =
    c.in_ok-extend_from_slice.ensures.items
    ∙ (ap (λ t. t ++ codes "  ") c.loop-above.invariant
    ∙ (append_assoc c.args.text.now.items (repeat c.loop-above.above (codes "  ")) (codes "  ")
    ∙ ap (λ t. c.args.text.now.items ++ t) (repeat_next c.loop-above.above (codes "  "))))
