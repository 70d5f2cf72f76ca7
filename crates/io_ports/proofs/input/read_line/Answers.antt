use Rattle.std.proofs.Common.{rules, ◌≡◌, ◌≤◌, ◌++◌, ◌∷◌, [], ◌∙◌, sym, ap, subst, length}
use Rattle.std.proofs.lemmas.Result.{err_from_is_err_and}
use Rattle.gopass_base.specs.Text.{Text}
use Rattle.gopass_base.specs.Lines.{cut_at}
use Rattle.io_ports.specs.Told.{Told}
use Rattle.io_ports.specs.Source.{Came}
use Rattle.io_ports.proofs.ToldLemmas.{told_two}
use Rattle.io_ports.proofs.InputLemmas.{came_two, line_stopped, line_unkept, line_ended, one_line, line_long, none_behind, none_lacks}
use Rattle.io_ports.proofs.input.read_line.Goals as goal

pub returns-in_err-byte-clause-read : goal.returns-in_err-byte-clause-read
returns-in_err-byte-clause-read g c =
    let p = err_from_is_err_and c.from_residual.result c.from_residual.ensures.1 in
    let inside : length c.loop-line.line.items ≤ c.args.max = search rules in
    rw (p.1, p.2) (line_stopped c.args.max c.loop-line.line.items _ _ _ c.loop-line.invariant.whole inside c.loop-line.invariant.came c.in_err-byte.ensures.next)

pub returns-in_err-push-clause-read : goal.returns-in_err-push-clause-read
returns-in_err-push-clause-read g c =
    let p = err_from_is_err_and c.from_residual-in_err-push.result c.from_residual-in_err-push.ensures.1 in
    let next : Told (Came (c.in-Some.byte ∷ [])) (g.S.Source.meaning.left c.loop-line.input) (g.S.Source.meaning.left c.next_byte.new.input) = search rules in
    let inside : length c.loop-line.line.items ≤ c.args.max = search rules in
    rw (p.1, p.2) (line_unkept c.args.max c.in-Some.byte c.loop-line.line.items _ _ _ c.loop-line.invariant.whole inside c.loop-line.invariant.came next)

pub returns-then-byte-eq10-clause-read : goal.returns-then-byte-eq10-clause-read
returns-then-byte-eq10-clause-read g c =
    let inside : length c.loop-line.line.items ≤ c.args.max = search rules in
    let next : Told (Came (c.in-Some.byte ∷ [])) (g.S.Source.meaning.left c.loop-line.input) (g.S.Source.meaning.left c.next_byte.new.input) = search rules in
    line_ended c.args.max c.in-Some.byte c.loop-line.line.items c.push.new.self _ _ _ c.loop-line.invariant.whole inside c.if-byte-eq10.true c.in_ok-push.ensures.items
    c.loop-line.invariant.came next

pub returns-then-byte-eq10-clause-line : goal.returns-then-byte-eq10-clause-line
returns-then-byte-eq10-clause-line g c =
    let inside : length c.loop-line.line.items ≤ c.args.max = search rules in
    one_line c.args.max c.in-Some.byte c.loop-line.line.items c.push.new.self.items c.loop-line.invariant.whole inside c.if-byte-eq10.true c.in_ok-push.ensures.items

pub returns-then-len-max-clause-read : goal.returns-then-len-max-clause-read
returns-then-len-max-clause-read g c =
    let full : length c.loop-line.line.items ≡ c.args.max = search rules in
    let next : Told (Came (c.in-Some.byte ∷ [])) (g.S.Source.meaning.left c.loop-line.input) (g.S.Source.meaning.left c.next_byte.new.input) = search rules in
    line_long c.args.max c.in-Some.byte c.loop-line.line.items _ _ _ c.loop-line.invariant.whole full c.if-byte-eq10.false c.loop-line.invariant.came next

pub loop-line-preserved : goal.loop-line-preserved
loop-line-preserved g c =
    let old = c.loop-line.line.items in
    let byte = c.in-Some.byte in
    let grown : c.push-in-Some.new.self.items ≡ old ++ byte ∷ [] = search rules in
    let next : Told (Came (byte ∷ [])) (g.S.Source.meaning.left c.loop-line.input) (g.S.Source.meaning.left c.next_byte.new.input) = search rules in
    record {
      inside = search rules;
      whole = ap (cut_at 10) grown ∙ none_behind old byte c.loop-line.invariant.whole c.if-byte-eq10.false;
      came = subst (λ (t : Text). Told (Came t) (g.S.Source.meaning.left c.args.input.now) (g.S.Source.meaning.left c.next_byte.new.input)) (sym grown)
          (told_two _ _ _ (came_two old (byte ∷ [])) _ _ _ c.loop-line.invariant.came next);
      count = search rules;
      goes_on = search rules;
      stays = search rules;
    }

pub returns-in_err-push-2-clause-read : goal.returns-in_err-push-2-clause-read
returns-in_err-push-2-clause-read g c =
    let p = err_from_is_err_and c.from_residual-in_err-push-2.result c.from_residual-in_err-push-2.ensures.1 in
    let next : Told (Came (c.in-Some.byte ∷ [])) (g.S.Source.meaning.left c.loop-line.input) (g.S.Source.meaning.left c.next_byte.new.input) = search rules in
    let inside : length c.loop-line.line.items ≤ c.args.max = search rules in
    rw (p.1, p.2) (line_unkept c.args.max c.in-Some.byte c.loop-line.line.items _ _ _ c.loop-line.invariant.whole inside c.loop-line.invariant.came next)

pub returns-clause-ends : goal.returns-clause-ends
returns-clause-ends g c = record { once = λ lacks. search rules; stays = λ has. absurd (has (none_lacks c.loop-line.line.items c.loop-line.invariant.whole)) }
