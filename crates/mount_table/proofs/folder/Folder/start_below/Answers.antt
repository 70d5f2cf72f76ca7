use Rattle.std.proofs.Common.{◌≡◌, ◌≢◌, ◌∙◌, ◌+◌, ap, sym, length, arith}
use Rattle.std.proofs.lemmas.Bool.Decides.{nat_tests}
use Rattle.mount_table.proofs.RestLemmas.{start_other}
use Rattle.mount_table.proofs.folder.Folder.start_below.Goals as goal

pub returns-else-is_empty : goal.returns-else-is_empty
returns-else-is_empty c = λ name holds.
    let some : length c.text-text.result.now ≢ 0 = grind (arith, nat_tests) in
    let same : length c.text-text.result.now ≡ length c.args.self.now = ap length c.text-text.ensures.text in
    ap (λ n. n + 1) same ∙ sym (start_other c.args.self.now name (λ e. some (same ∙ e)) holds)
