-- What was found, in rising order.
use Rattle.gopass_base.specs.Order.{IsRising, IsSetOf}
use Rattle.store_state.specs.declared.seen.Seen.{Seen}

-- each list of what was found
pub record AreRising (seen : Seen) : Type 0 where
  pub names : IsRising seen.names.items
  pub rules : IsRising seen.rules.items
  pub templates : IsRising seen.templates.items
  pub strange : IsRising seen.strange.items
  pub shadowed : IsRising seen.shadowed.items

-- each list of what was found in rising order, each text once
pub record IsOrdered (seen now : Seen) : Type 0 where
  pub names : IsSetOf now.names.items seen.names.items
  pub rules : IsSetOf now.rules.items seen.rules.items
  pub templates : IsSetOf now.templates.items seen.templates.items
  pub strange : IsSetOf now.strange.items seen.strange.items
  pub shadowed : IsSetOf now.shadowed.items seen.shadowed.items
