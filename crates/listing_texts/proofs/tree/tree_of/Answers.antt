use Rattle.std.proofs.Common.{arith, sym, subst}
use Rattle.gopass_base.specs.Text.{Text}
use Rattle.mount_table.specs.Prefixes.{Holds}
use Rattle.listing_texts.proofs.tree.tree_of.Goals as goal

pub rest_below-rest-requires : goal.rest_below-rest-requires
rest_below-rest-requires c = subst (λ (t : Text). Holds c.args.folder.now t) (sym c.name-item.is) (c.requires c.loop-name.name-index c.name-item.result (omega arith))
