use Rattle.std.proofs.Common.{◌≡◌, take}
use Rattle.disk_model.specs.Entries.{entries_of}
use Rattle.disk_model.proofs.entries.copy_files.Given as goal

abbrev pub invariant-loop-file : goal.invariant-loop-file
invariant-loop-file l = entries_of l.copies.items ≡ entries_of (take l.file-index l.files)
