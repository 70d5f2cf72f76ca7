use Rattle.std.proofs.Common.{List, Ok, Err, subst, ap, refl, ◌<◌, ◌≤◌, length, ◌∙◌, arith}
use Rattle.std.specs.Prelude.{⊤}
use Rattle.std.proofs.lemmas.Bool.Decides.{nat_tests}
use Rattle.std.proofs.lemmas.Result.{err_from_is_err_and}
use Rattle.gopass_base.specs.Text.{Text}
use Rattle.mount_table.specs.Mounts.{IsTable, root_of}
use Rattle.mount_table.specs.declared.mounts.Row.{Row}
use Rattle.store_state.specs.State.{mounts_path}
use Rattle.store_state.specs.RuleFiles.{ReadsRules}
use Rattle.pending_journal.proofs.CostLemmas.{costs_is, costs_most, costs_then, on_err}
use Rattle.store_state.proofs.OpeningLemmas.{table_of, surveyed, survey_first, rules_first, opens_fault}
use Rattle.store_state.proofs.opening.survey_all.Goals as goal

pub returns-then-len-gt-MOST_RULES-clause-opens : goal.returns-then-len-gt-MOST_RULES-clause-opens
returns-then-len-gt-MOST_RULES-clause-opens g c told =
    let disk = g.D.Disk.meaning in
    let start = c.args.vault.now in
    let files = (disk.view start.disk).files in
    let first = c.read_mounts.new.vault in
    let second = c.find_no_pending.new.vault in
    let mounts = c.in_ok-mounts.mounts in
    let one = (c.in_ok-mounts.ensures.only_reads.rests told).files in
    let two = (c.in_ok-find_no_pending.ensures.only_reads.rests told).files in
    let many : 512 < length c.all_in_order-seen.result.rules.items = grind (arith, nat_tests) in
    let all = surveyed start.root files c.args.root.now first.root (disk.view first.disk).files second.root (disk.view second.disk).files mounts c.in_ok-seen.seen c.all_in_order-seen.result c.in_ok-seen.counts.items
    c.requires.root (c.in_ok-mounts.ensures.mounts told) c.in_ok-mounts.ensures.only_reads.root one (c.in_ok-find_no_pending.ensures.pending told) (c.in_ok-find_no_pending.ensures.only_reads.root ∙ c.in_ok-mounts.ensures.only_reads.root) (two ∙ one) (c.in_ok-seen.ensures.lists told) c.all_in_order-seen.ensures in
    (mounts, c.all_in_order-seen.result, all, many)

pub returns-then-len-gt-MOST_SECRETS-clause-opens : goal.returns-then-len-gt-MOST_SECRETS-clause-opens
returns-then-len-gt-MOST_SECRETS-clause-opens g c told =
    let disk = g.D.Disk.meaning in
    let start = c.args.vault.now in
    let files = (disk.view start.disk).files in
    let first = c.read_mounts.new.vault in
    let second = c.find_no_pending.new.vault in
    let mounts = c.in_ok-mounts.mounts in
    let one = (c.in_ok-mounts.ensures.only_reads.rests told).files in
    let two = (c.in_ok-find_no_pending.ensures.only_reads.rests told).files in
    let few : length c.all_in_order-seen.result.rules.items ≤ 512 = grind (arith, nat_tests) in
    let many : 8192 < length c.all_in_order-seen.result.names.items = grind (arith, nat_tests) in
    let all = surveyed start.root files c.args.root.now first.root (disk.view first.disk).files second.root (disk.view second.disk).files mounts c.in_ok-seen.seen c.all_in_order-seen.result c.in_ok-seen.counts.items
    c.requires.root (c.in_ok-mounts.ensures.mounts told) c.in_ok-mounts.ensures.only_reads.root one (c.in_ok-find_no_pending.ensures.pending told) (c.in_ok-find_no_pending.ensures.only_reads.root ∙ c.in_ok-mounts.ensures.only_reads.root) (two ∙ one) (c.in_ok-seen.ensures.lists told) c.all_in_order-seen.ensures in
    (mounts, c.all_in_order-seen.result, all, few, many)

pub returns-in_err-rules-clause-opens : goal.returns-in_err-rules-clause-opens
returns-in_err-rules-clause-opens g c told =
    let disk = g.D.Disk.meaning in
    let start = c.args.vault.now in
    let files = (disk.view start.disk).files in
    let first = c.read_mounts.new.vault in
    let second = c.find_no_pending.new.vault in
    let third = c.survey.new.vault in
    let mounts = c.in_ok-mounts.mounts in
    let seen = c.all_in_order-seen.result in
    let one = (c.in_ok-mounts.ensures.only_reads.rests told).files in
    let two = (c.in_ok-find_no_pending.ensures.only_reads.rests told).files in
    let three = (c.in_ok-seen.ensures.only_reads.rests told).files in
    let all = surveyed start.root files c.args.root.now first.root (disk.view first.disk).files second.root (disk.view second.disk).files mounts c.in_ok-seen.seen seen c.in_ok-seen.counts.items
    c.requires.root (c.in_ok-mounts.ensures.mounts told) c.in_ok-mounts.ensures.only_reads.root one (c.in_ok-find_no_pending.ensures.pending told) (c.in_ok-find_no_pending.ensures.only_reads.root ∙ c.in_ok-mounts.ensures.only_reads.root) (two ∙ one) (c.in_ok-seen.ensures.lists told) c.all_in_order-seen.ensures in
    let fault = c.in_err-rules.field-0.0 in
    let reads = subst (λ (folders : List Text). ReadsRules start.root files mounts folders (Err fault)) c.deref.ensures.value
    (rules_first start.root files third.root (disk.view third.disk).files mounts c.deref.result.now (Err fault) (c.in_ok-seen.ensures.only_reads.root ∙ (c.in_ok-find_no_pending.ensures.only_reads.root ∙ c.in_ok-mounts.ensures.only_reads.root)) (three ∙ (two ∙ one)) (c.in_err-rules.ensures.reads told)) in
    let few_rules : length seen.rules.items ≤ 512 = grind (arith, nat_tests) in
    let few : length seen.names.items ≤ 8192 = grind (arith, nat_tests) in
    let p = err_from_is_err_and c.from_residual-in_err-rules.result c.from_residual-in_err-rules.ensures.1 in
    rw (p.1, p.2) (opens_fault start.root files mounts seen fault all few_rules few reads)

pub returns-clause-opens : goal.returns-clause-opens
returns-clause-opens g c told =
    let disk = g.D.Disk.meaning in
    let start = c.args.vault.now in
    let files = (disk.view start.disk).files in
    let first = c.read_mounts.new.vault in
    let second = c.find_no_pending.new.vault in
    let third = c.survey.new.vault in
    let mounts = c.in_ok-mounts.mounts in
    let one = (c.in_ok-mounts.ensures.only_reads.rests told).files in
    let two = (c.in_ok-find_no_pending.ensures.only_reads.rests told).files in
    let three = (c.in_ok-seen.ensures.only_reads.rests told).files in
    let all = surveyed start.root files c.args.root.now first.root (disk.view first.disk).files second.root (disk.view second.disk).files mounts c.in_ok-seen.seen c.all_in_order-seen.result c.in_ok-seen.counts.items
    c.requires.root (c.in_ok-mounts.ensures.mounts told) c.in_ok-mounts.ensures.only_reads.root one (c.in_ok-find_no_pending.ensures.pending told) (c.in_ok-find_no_pending.ensures.only_reads.root ∙ c.in_ok-mounts.ensures.only_reads.root) (two ∙ one) (c.in_ok-seen.ensures.lists told) c.all_in_order-seen.ensures in
    record {
      mounts_are = all.mounts_are;
      table = table_of start.root (files (mounts_path start.root)) mounts all.mounts_are (subst (λ (rows : List Row). IsTable (root_of rows) rows) c.mounts.view_is c.mounts.invariant);
      no_pending = all.no_pending;
      survey = survey_first start.root files second.root (disk.view second.disk).files mounts c.in_ok-seen.seen c.all_in_order-seen.result c.in_ok-seen.counts.items (c.in_ok-find_no_pending.ensures.only_reads.root ∙ c.in_ok-mounts.ensures.only_reads.root) (two ∙ one) (c.in_ok-seen.ensures.lists told) c.all_in_order-seen.ensures;
      rising = all.rising;
      few_rules = grind (arith, nat_tests);
      few = grind (arith, nat_tests);
      rules_are = subst (λ (folders : List Text). ReadsRules start.root files mounts folders (Ok c.in_ok-rules.rules)) c.deref.ensures.value
          (rules_first start.root files third.root (disk.view third.disk).files mounts c.deref.result.now (Ok c.in_ok-rules.rules) (c.in_ok-seen.ensures.only_reads.root ∙ (c.in_ok-find_no_pending.ensures.only_reads.root ∙ c.in_ok-mounts.ensures.only_reads.root)) (three ∙ (two ∙ one)) (c.in_ok-rules.ensures.reads told));
    }

pub returns-in_err-mounts-clause-few : goal.returns-in_err-mounts-clause-few
returns-in_err-mounts-clause-few g c free = on_err c.from_residual.result (costs_most (omega arith) c.in_err-mounts.ensures.costs)

pub returns-in_err-find_no_pending-clause-few : goal.returns-in_err-find_no_pending-clause-few
returns-in_err-find_no_pending-clause-few g c free =
    on_err c.from_residual-in_err-find_no_pending.result (costs_most (omega arith) (costs_then {R = ⊤} (λ t. t) (λ t. t) c.in_ok-mounts.ensures.costs c.in_err-find_no_pending.ensures.costs))

pub returns-in_err-seen-clause-few : goal.returns-in_err-seen-clause-few
returns-in_err-seen-clause-few g c free =
    let table = subst (λ (rows : List Row). IsTable (root_of rows) rows) c.mounts.view_is c.mounts.invariant in
    let two = costs_then {R = ⊤} (λ t. t) (λ t. t) c.in_ok-mounts.ensures.costs c.in_ok-find_no_pending.ensures.costs in
    let still = c.in_ok-find_no_pending.ensures.only_reads.stuck ∙ (c.in_ok-mounts.ensures.only_reads.stuck ∙ free) in
    on_err c.from_residual-in_err-seen.result (costs_most (omega (arith, table.rows_are.most)) (costs_then {R = ⊥} (λ t. tt) (λ t. absurd t) two (c.in_err-seen.ensures.costs still)))

pub returns-then-len-gt-MOST_RULES-clause-few : goal.returns-then-len-gt-MOST_RULES-clause-few
returns-then-len-gt-MOST_RULES-clause-few g c free =
    let table = subst (λ (rows : List Row). IsTable (root_of rows) rows) c.mounts.view_is c.mounts.invariant in
    let two = costs_then {R = ⊤} (λ t. t) (λ t. t) c.in_ok-mounts.ensures.costs c.in_ok-find_no_pending.ensures.costs in
    let still = c.in_ok-find_no_pending.ensures.only_reads.stuck ∙ (c.in_ok-mounts.ensures.only_reads.stuck ∙ free) in
    costs_most (omega (arith, table.rows_are.most)) (costs_then {R = ⊤} (λ t. t) (λ t. refl) two (c.in_ok-seen.ensures.costs still))

pub returns-then-len-gt-MOST_SECRETS-clause-few : goal.returns-then-len-gt-MOST_SECRETS-clause-few
returns-then-len-gt-MOST_SECRETS-clause-few g c free =
    let table = subst (λ (rows : List Row). IsTable (root_of rows) rows) c.mounts.view_is c.mounts.invariant in
    let two = costs_then {R = ⊤} (λ t. t) (λ t. t) c.in_ok-mounts.ensures.costs c.in_ok-find_no_pending.ensures.costs in
    let still = c.in_ok-find_no_pending.ensures.only_reads.stuck ∙ (c.in_ok-mounts.ensures.only_reads.stuck ∙ free) in
    costs_most (omega (arith, table.rows_are.most)) (costs_then {R = ⊤} (λ t. t) (λ t. refl) two (c.in_ok-seen.ensures.costs still))

pub returns-in_err-rules-clause-few : goal.returns-in_err-rules-clause-few
returns-in_err-rules-clause-few g c free =
    let table = subst (λ (rows : List Row). IsTable (root_of rows) rows) c.mounts.view_is c.mounts.invariant in
    let two = costs_then {R = ⊤} (λ t. t) (λ t. t) c.in_ok-mounts.ensures.costs c.in_ok-find_no_pending.ensures.costs in
    let still = c.in_ok-find_no_pending.ensures.only_reads.stuck ∙ (c.in_ok-mounts.ensures.only_reads.stuck ∙ free) in
    let three = costs_then {R = ⊤} (λ t. t) (λ t. refl) two (c.in_ok-seen.ensures.costs still) in
    let few : length c.all_in_order-seen.result.rules.items ≤ 512 = grind (arith, nat_tests) in
    on_err c.from_residual-in_err-rules.result
    (costs_most (omega (arith, table.rows_are.most, few, ap length c.deref.ensures.value)) (costs_then {R = ⊥} (λ t. tt) (λ t. absurd t) three c.in_err-rules.ensures.costs))

pub returns-clause-costs : goal.returns-clause-costs
returns-clause-costs g c free =
    let two = costs_then {R = ⊤} (λ t. t) (λ t. t) c.in_ok-mounts.ensures.costs c.in_ok-find_no_pending.ensures.costs in
    let still = c.in_ok-find_no_pending.ensures.only_reads.stuck ∙ (c.in_ok-mounts.ensures.only_reads.stuck ∙ free) in
    let three = costs_then {R = ⊤} (λ t. t) (λ t. refl) two (c.in_ok-seen.ensures.costs still) in
    costs_is (omega (arith, ap length c.deref.ensures.value)) (λ t. tt) (costs_then {R = ⊤} (λ t. t) (λ t. refl) three c.in_ok-rules.ensures.costs)
