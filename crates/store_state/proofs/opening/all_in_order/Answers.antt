use Rattle.gopass_base.proofs.OrderLemmas.{set_of_sorted}
use Rattle.store_state.proofs.opening.all_in_order.Goals as goal

pub returns : goal.returns
returns c = record {
  names = set_of_sorted _ _ c.in_order.ensures.once;
  rules = set_of_sorted _ _ c.in_order-2.ensures.once;
  templates = set_of_sorted _ _ c.in_order-3.ensures.once;
  strange = set_of_sorted _ _ c.in_order-4.ensures.once;
  shadowed = set_of_sorted _ _ c.in_order-5.ensures.once;
}
