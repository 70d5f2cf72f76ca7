use Rattle.std.proofs.Common.{◌≡◌, length}
use Rattle.store_core.specs.Once.{each_once}
use Rattle.store_core.proofs.differ.has_each_once.Given as goal

abbrev pub invariant-loop-pair : goal.invariant-loop-pair
invariant-loop-pair g l = each_once g.K.PartialEq.eq l.left ≡ each_once g.K.PartialEq.eq l.pairs

abbrev pub decreases-loop-pair : goal.decreases-loop-pair
decreases-loop-pair g l = length l.left
