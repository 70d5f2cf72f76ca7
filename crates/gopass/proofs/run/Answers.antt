use Rattle.std.proofs.Common.{rules, ◌≡◌, [], ◌∷◌}
use Rattle.cipher_port.specs.MemTool.{Tool}
use Rattle.gopass_cli.proofs.RingLemmas.{have_one}
use Rattle.gopass.proofs.run.Goals as goal

pub gopass-status-requires-clause-rings : goal.gopass-status-requires-clause-rings
gopass-status-requires-clause-rings c =
    let tool : Tool = c.in_ok-tool.field-0 in
    let one : c.push.new.self.items ≡ tool ∷ [] = search rules in
    λ met told. (tool.ring, have_one (λ (t : Tool). t.ring) tool c.push.new.self.items one)
