use Rattle.std.proofs.Common.{rules, ◌≡◌, [], ◌∷◌}
use Rattle.cipher_port.specs.MemTool.{Tool}
use Rattle.gopass_cli.proofs.RingLemmas.{have_one}
use Rattle.transcript.proofs.play.tools.Goals as goal

pub returns-clause-rings : goal.returns-clause-rings
returns-clause-rings c =
    let tool : Tool = c.in_ok-tool.field-0 in
    let one : c.push.new.self.items ≡ tool ∷ [] = search rules in
    (tool.ring, have_one (λ (t : Tool). t.ring) tool c.push.new.self.items one)
