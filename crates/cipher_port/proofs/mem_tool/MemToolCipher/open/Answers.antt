use Rattle.std.proofs.Common.{arith, ◌≤◌, length}
use Rattle.cipher_port.specs.StandinLaws.{standin_limits}
use Rattle.cipher_port.proofs.mem_tool.MemToolCipher.open.Goals as goal

pub returns-clause-bound : goal.returns-clause-bound
returns-clause-bound c =
    let limits = standin_limits c.args.sealed.now tt in
    let few : length c.in_ok-to.field-0.body.items ≤ 32768 = (limits.each _ c.in_ok-to.ensures.found).1 in
    omega (arith, few)
