use Rattle.std.proofs.Common.{rules, ◌≡◌, ℕ, ◌-◌, ◌∙◌, ap, length, take, drop, ◌++◌, List, [], ◌∷◌}
use Rattle.gopass_base.specs.Text.{Text}
use Rattle.pending_journal.proofs.BuildLemmas.{first_step, built_drop, paths_drop, drop_line}
use Rattle.pending_journal.proofs.change.Change.erase.Goals as goal

pub invariant_of-self-2 : goal.invariant_of-self-2
invariant_of-self-2 c =
    let old = c.args.self.now in
    let text = old.text.items in
    let p = c.args.path in
    let may = c.in_default.ensures in
    let added = c.in_ok-add_step.ensures in
    let long : c.len-end.result ≡ length text = search rules in
    let made = added.text ∙ ap (λ (n : ℕ). take (n - 4) text ++ drop_line p (drop (n - 4) text)) long in
    let pushed : c.push_reserved.new.self.items ≡ old.drops.items ++ p ∷ [] = c.push_reserved.ensures.items ∙ ap (λ (l : List Text). l ++ p ∷ []) c.in_ok-reserve.ensures.items in
    record {
      built = built_drop old.root old.journal old.fresh text old.puts_end old.puts.items old.drops.items old.built p _ _
          (record { file = added.good.1; text = added.good.0; apart = may.0; plain = may.1; room = may.2 }) made pushed;
      paths_are = paths_drop old.paths c.add_step.new.paths old.puts.items old.drops.items _ p pushed added.paths old.paths_are;
    }

pub returns-in-Some-clause-first : goal.returns-in-Some-clause-first
returns-in-Some-clause-first c none free plain =
    let old = c.args.self.now in
    first_step old.root old.puts.items old.drops.items c.args.path c.in-Some.fault none free plain c.in-Some.ensures
