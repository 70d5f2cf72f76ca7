use Rattle.std.proofs.Common.{◌≡◌, ◌++◌, drop}
use Rattle.text_search.specs.Search.{names_with}
use Rattle.text_search.proofs.search.names_with.Given as goal

abbrev pub invariant-loop-name : goal.invariant-loop-name
invariant-loop-name l = l.found.items ++ names_with l.text (drop l.name-index l.names) ≡ names_with l.text l.names
