use Rattle.std.proofs.Common.{take}
use Rattle.store_state.specs.Found.{AllLieBelow, AddsPaths}
use Rattle.store_state.proofs.seen.add_paths.Given as goal

abbrev pub invariant-loop-path : goal.invariant-loop-path
invariant-loop-path l = AllLieBelow l.mounts l.row l.paths → AddsPaths l.mounts l.row (take l.path-index l.paths) l.fn.seen l.seen
