use Rattle.std.proofs.Common.{◌≡◌, drop}
use Rattle.disk_model.specs.Entries.{entries_of, files_of}
use Rattle.disk_model.proofs.entries.find.Given as goal

abbrev pub invariant-loop-i : goal.invariant-loop-i
invariant-loop-i l = files_of (entries_of l.files) l.path ≡ files_of (entries_of (drop l.i l.files)) l.path
