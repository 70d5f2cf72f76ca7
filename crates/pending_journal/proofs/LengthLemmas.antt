-- No journal has more than 20,000,000 bytes.
use Rattle.std.proofs.Common.{◌+◌, ◌*◌, ◌<◌, ◌≤◌, List, [], ◌∷◌, length, codes, All, arith, ap, length-append}
use Rattle.std.proofs.lemmas.List.Elements.{All-head, All-tail}
use Rattle.gopass_base.specs.Text.{Text}
use Rattle.gopass_base.specs.Paths.{IsFilePath}
use Rattle.pending_journal.specs.Journal.{JournalPlan, IsJournalPlan, journal_text, put_lines, drop_lines}
use Rattle.pending_journal.specs.Faults.{IsBadText}
use Rattle.pending_journal.proofs.PlanLemmas.{All-left, All-right}

put_length : (paths : List Text) (rest : Text) → All IsFilePath paths → length (put_lines paths rest) ≤ 1006 * length paths + length rest
put_length [] rest all = omega arith
put_length (p ∷ paths) rest all =
    let short = (All-head IsFilePath p paths all).short in
    let more = put_length paths rest (All-tail IsFilePath p paths all) in
    omega (arith, short, more, length-append p (10 ∷ put_lines paths rest))

drop_length : (paths : List Text) (rest : Text) → All IsFilePath paths → length (drop_lines paths rest) ≤ 1006 * length paths + length rest
drop_length [] rest all = omega arith
drop_length (p ∷ paths) rest all =
    let short = (All-head IsFilePath p paths all).short in
    let more = drop_length paths rest (All-tail IsFilePath p paths all) in
    omega (arith, short, more, length-append p (10 ∷ drop_lines paths rest))

text_length : (root : Text) (plan : JournalPlan) → IsJournalPlan root plan → length (journal_text plan) ≤ 20000000
text_length root plan ok =
    let drops = drop_lines plan.drops (codes "end\n") in
    let a = put_length plan.puts drops (All-left IsFilePath plan.puts plan.drops ok.paths) in
    let b = drop_length plan.drops (codes "end\n") (All-right IsFilePath plan.puts plan.drops ok.paths) in
    let few = ok.few in
    omega (arith, a, b, few, length-append plan.puts plan.drops)

-- a text over its limit is none
pub long_bad : (root text : Text) → 20000000 < length text → IsBadText root text
long_bad root text long plan ok is = absurd (omega (arith, long, ap length is, text_length root plan ok))
