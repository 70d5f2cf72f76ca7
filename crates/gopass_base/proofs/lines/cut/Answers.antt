use Rattle.std.proofs.Common.{◌≡◌, ◌≢◌, ◌+◌, rules, sym, ◌∙◌, arith, take, ap, subst}
use Rattle.std.specs.Prelude.{Some, None}
use Rattle.std.proofs.lemmas.Iterator.{YieldsList-from_slice, IsFirst-from_position}
use Rattle.std.proofs.lemmas.List.{take_rest}
use borrow.Author.Tests.{tests}
use Rattle.gopass_base.specs.Text.{Text}
use Rattle.gopass_base.specs.Lines.{IsCut}
use Rattle.gopass_base.proofs.LineLemmas.{cut_by, cut_none, cut_there}
use Rattle.gopass_base.proofs.lines.cut.Goals as goal

pub returns-in_err-at-clause-cut : goal.returns-in_err-at-clause-cut
returns-in_err-at-clause-cut c =
    let found = IsFirst-from_position _ _ None (λ b. b ≡ c.args.byte) (λ b. b ≢ c.args.byte) c.in_err-at.ensures.ran (YieldsList-from_slice c.args.bytes.now cc) (λ x q k. search (rules, tests)) (λ x q k. search (rules, tests)) in
    rw c.from_residual.ensures (λ k d lt. found k d (omega arith) lt)

pub returns-in_err-at-clause-computed : goal.returns-in_err-at-clause-computed
returns-in_err-at-clause-computed c =
    let found = IsFirst-from_position _ _ None (λ b. b ≡ c.args.byte) (λ b. b ≢ c.args.byte) c.in_err-at.ensures.ran (YieldsList-from_slice c.args.bytes.now cc) (λ x q k. search (rules, tests)) (λ x q k. search (rules, tests)) in
    rw c.from_residual.ensures (sym (cut_none c.args.byte c.args.bytes.now (λ k l. found k 0 (omega arith) l)))

pub returns-clause-cut : goal.returns-clause-cut
returns-clause-cut c =
    let found = IsFirst-from_position _ _ (Some c.in_ok-at.at) (λ b. b ≡ c.args.byte) (λ b. b ≢ c.args.byte) c.in_ok-at.ensures.ran (YieldsList-from_slice c.args.bytes.now cc) (λ x q k. search (rules, tests)) (λ x q k. search (rules, tests)) in
    subst (λ (t : Text). IsCut c.args.byte c.args.bytes.now (take c.in_ok-at.at c.args.bytes.now) t) (sym (take_rest c.args.bytes.now (c.in_ok-at.at + 1)))
    (cut_there c.args.byte c.args.bytes.now c.in_ok-at.at found.0 (found.1 0) (λ k d lt. found.2 k d (omega arith) lt))

pub returns-clause-computed : goal.returns-clause-computed
returns-clause-computed c =
    let found = IsFirst-from_position _ _ (Some c.in_ok-at.at) (λ b. b ≡ c.args.byte) (λ b. b ≢ c.args.byte) c.in_ok-at.ensures.ran (YieldsList-from_slice c.args.bytes.now cc) (λ x q k. search (rules, tests)) (λ x q k. search (rules, tests)) in
    ap (λ t. Some (take c.in_ok-at.at c.args.bytes.now, t)) (take_rest c.args.bytes.now (c.in_ok-at.at + 1))
    ∙ sym (cut_by c.args.byte c.args.bytes.now c.in_ok-at.at found.0 (found.1 0) (λ k l. found.2 k 0 (omega arith) l))
