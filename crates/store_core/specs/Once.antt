-- Pairs of which no two have one key.
use Rattle.std.specs.Prelude.{Bool, true, not, ◌&&◌, List, [], ◌∷◌}
use Rattle.std.specs.List.{list_any}

abbrev pub each_once : {K V : Type 0} → (K → K → Bool) → List (K × V) → Bool
each_once eq [] = true
each_once eq (pair ∷ pairs) = not (list_any (λ other. eq other.0 pair.0) pairs) && each_once eq pairs
