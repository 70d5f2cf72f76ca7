use Rattle.std.proofs.Common.{◌≡◌, ap, length, refl, arith}
use Rattle.std.proofs.lemmas.Bool.Decides.{nat_tests}
use Rattle.mount_table.proofs.PrefixLemmas.{root_reaches}
use Rattle.mount_table.proofs.folder.Folder.reaches.Goals as goal

pub returns-then-is_empty : goal.returns-then-is_empty
returns-then-is_empty c =
    let none : length c.text.result.now ≡ 0 = grind (arith, nat_tests) in
    (λ _. root_reaches c.args.self.now c.args.other.now (omega (arith, none, ap length c.text.ensures.text)), λ _. refl)
