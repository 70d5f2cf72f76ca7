use Rattle.std.proofs.Common.{◌≡◌, ◌++◌, drop}
use Rattle.path_rules.specs.Affected.{affected_names}
use Rattle.path_rules.proofs.change.affected.Given as goal

abbrev pub invariant-loop-name : goal.invariant-loop-name
invariant-loop-name l = l.affected.items ++ affected_names l.before l.after l.mounts (drop l.name-index l.names) ≡ affected_names l.before l.after l.mounts l.names
