use Rattle.std.proofs.Common.{◌≡◌, ◌++◌, ◌≤◌, drop, length}
use Rattle.disk_model.specs.Entries.{entries_of}
use Rattle.disk_model.specs.Listing.{paths_in}
use Rattle.disk_model.proofs.listing.list.Given as goal

abbrev pub invariant-loop-path : goal.invariant-loop-path
invariant-loop-path l = record {
  whole : l.paths.items ++ paths_in l.dir (entries_of (drop l.path-index l.files)) ≡ paths_in l.dir (entries_of l.files);
  few : length l.paths.items ≤ l.max;
  all : length l.paths.items ≤ l.path-index;
}
