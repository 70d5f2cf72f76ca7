use Rattle.std.proofs.Common.{rules, ◌≡◌, ℕ, ◌+◌, ◌-◌, ◌∙◌, ap, arith, length, ◌++◌, List, [], ◌∷◌}
use Rattle.pending_journal.specs.Journal.{stage_path}
use Rattle.pending_journal.specs.Change.{contents_of}
use Rattle.pending_journal.specs.declared.put.Put.{Put}
use Rattle.pending_journal.proofs.BuildLemmas.{first_step, built_put, paths_put, puts_inside, contents_push}
use Rattle.pending_journal.proofs.change.Change.put.Goals as goal

pub add_step-requires : goal.add_step-requires
add_step-requires c =
    let old = c.args.self.now in
    puts_inside old.root old.journal old.fresh old.text.items old.puts_end old.puts.items old.drops.items old.built

pub overflow_add-self : goal.overflow_add-self
overflow_add-self c =
    let old = c.args.self.now in
    let inside = puts_inside old.root old.journal old.fresh old.text.items old.puts_end old.puts.items old.drops.items old.built in
    let was : c.len-before.result ≡ length old.text.items = search rules in
    let fits = c.len-2.type_inv in
    let fits' = c.len-before.type_inv in
    omega (arith, inside, was, fits, fits')

pub invariant_of-self-2 : goal.invariant_of-self-2
invariant_of-self-2 c =
    let old = c.args.self.now in
    let p = c.args.path in
    let may = c.in_default.ensures in
    let added = c.in_ok-add_step.ensures in
    let was : c.len-before.result ≡ length old.text.items = search rules in
    let now : c.len-2.result ≡ length c.add_step.new.text.items = search rules in
    let count : c.len.result ≡ length old.puts.items = search rules in
    let put : Put = record { staged = c.in_ok-staged.staged; path = p; bytes = c.args.bytes } in
    let pushed : c.push_reserved.new.self.items ≡ old.puts.items ++ put ∷ [] = c.push_reserved.ensures.items ∙ ap (λ (l : List Put). l ++ put ∷ []) c.in_ok-reserve.ensures.items in
    record {
      built = built_put old.root old.journal old.fresh old.text.items old.puts_end old.puts.items old.drops.items old.built put _ _ _
          (record { file = added.good.1; text = added.good.0; apart = may.0; plain = may.1; room = may.2 }) added.text
          (ap (λ (n : ℕ). old.puts_end + (n - c.len-before.result)) now ∙ ap (λ (n : ℕ). old.puts_end + (length c.add_step.new.text.items - n)) was)
          pushed (c.in_ok-staged.ensures ∙ ap (stage_path old.root) count);
      paths_are = paths_put old.paths c.add_step.new.paths old.puts.items _ old.drops.items put pushed added.paths old.paths_are;
    }

pub returns-clause-added : goal.returns-clause-added
returns-clause-added c =
    let old = c.args.self.now in
    let put : Put = record { staged = c.in_ok-staged.staged; path = c.args.path; bytes = c.args.bytes } in
    let pushed : c.push_reserved.new.self.items ≡ old.puts.items ++ put ∷ [] = c.push_reserved.ensures.items ∙ ap (λ (l : List Put). l ++ put ∷ []) c.in_ok-reserve.ensures.items in
    ap contents_of pushed ∙ contents_push old.puts.items put

pub returns-in-Some-clause-first : goal.returns-in-Some-clause-first
returns-in-Some-clause-first c none free plain =
    let old = c.args.self.now in
    first_step old.root old.puts.items old.drops.items c.args.path c.in-Some.fault none free plain c.in-Some.ensures
