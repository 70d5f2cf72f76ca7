-- What was found is what a state has.
use Rattle.std.specs.Prelude.{◌≡◌}
use Rattle.std.specs.FinMap as map
use Rattle.store_state.specs.declared.opening.Found.{Found}
use Rattle.store_state.specs.State.{State}

-- part by part: names of secrets, folders of rules and of templates are the keys of the maps
pub record Agrees (state : State) (found : Found) : Type 0 where
  pub mounts : state.mounts ≡ found.mounts
  pub rules : state.rules ≡ found.rules
  pub names : map.keys state.rows ≡ found.seen.names.items
  pub folders : map.keys state.rules ≡ found.seen.rules.items
  pub templates : map.keys state.templates ≡ found.seen.templates.items
  pub strange : state.strange ≡ found.seen.strange.items
  pub shadowed : state.shadowed ≡ found.seen.shadowed.items
  pub sizes : state.sizes ≡ found.counts.items
