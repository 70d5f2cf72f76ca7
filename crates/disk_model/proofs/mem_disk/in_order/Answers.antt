use Rattle.std.proofs.Common.{◌≡◌, ◌++◌, ◌∷◌, [], ◌∙◌, ℕ, List, Vec, Global, ap, append_assoc}
use Rattle.gopass_base.specs.Text.{Text}
use Rattle.disk_model.specs.Entries.{entries_of}
use Rattle.disk_model.proofs.EntryLemmas.{files_more, rising_more}
use Rattle.disk_model.proofs.mem_disk.in_order.Goals as goal

pub loop-path-preserved : goal.loop-path-preserved
loop-path-preserved c =
    let (done, so_far) = c.loop-path.invariant in
    let file : Text × Vec ℕ Global = (c.in-Some.path, c.in-Some.bytes) in
    let popped : c.loop-path.files.items ≡ c.pop.new.self.items ++ file ∷ [] = c.in-Some.ensures.items in (
      file ∷ done,
      record {
        whole = so_far.whole ∙ (ap (λ (fs : List (Text × Vec ℕ Global)). fs ++ done) popped ∙ append_assoc c.pop.new.self.items (file ∷ []) done);
        same = files_more c.in-Some.path c.in-Some.bytes (entries_of c.put_file.new.files.items) (entries_of c.loop-path.sorted.items) done c.in_ok-put_file.ensures.put so_far.same;
        rising = rising_more c.in-Some.path c.in-Some.bytes.items (entries_of c.put_file.new.files.items) (entries_of c.loop-path.sorted.items) c.in_ok-put_file.ensures.put so_far.rising;
      },
    )
