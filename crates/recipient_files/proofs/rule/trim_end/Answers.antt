use Rattle.std.proofs.Common.{◌≡◌, ◌≢◌, ◌-◌, ◌∙◌, length, get_or, sym, arith}
use Rattle.recipient_files.proofs.TrimLemmas.{trim_more, trim_done}
use Rattle.recipient_files.proofs.rule.trim_end.Goals as goal

pub loop-text-preserved : goal.loop-text-preserved
loop-text-preserved c =
    let space : get_or c.loop-text.text.now (length c.loop-text.text.now - 1) 0 ≡ 32 = omega arith in
    trim_more c.loop-text.text.now (omega arith) space ∙ c.loop-text.invariant

pub returns-in_default-2 : goal.returns-in_default-2
returns-in_default-2 c =
    let other : get_or c.loop-text.text.now (length c.loop-text.text.now - 1) 0 ≢ 32 = omega arith in
    sym (trim_done c.loop-text.text.now (λ _. other)) ∙ c.loop-text.invariant
