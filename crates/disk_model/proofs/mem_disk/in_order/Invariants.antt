use Rattle.std.proofs.Common.{◌≡◌, ◌++◌, vec_len}
use Rattle.std.specs.Prelude.{IsTrue}
use Rattle.gopass_base.specs.Text.{Text}
use Rattle.disk_model.specs.Entries.{entries_of, files_of, is_rising}
use Rattle.disk_model.proofs.mem_disk.in_order.Given as goal

-- the files behind those that are left are in order
abbrev pub invariant-loop-path : goal.invariant-loop-path
invariant-loop-path l = (done : _) × (record {
  whole : l.fn.files.items ≡ l.files.items ++ done;
  same : (path : Text) → files_of (entries_of l.sorted.items) path ≡ files_of (entries_of done) path;
  rising : IsTrue (is_rising (entries_of l.sorted.items));
})

abbrev pub decreases-loop-path : goal.decreases-loop-path
decreases-loop-path l = vec_len l.files
