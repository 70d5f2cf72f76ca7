use Rattle.std.proofs.Common.{rules, Global, Vec, ◌≡◌, ◌+◌, ◌<◌, ◌≤◌, ℕ, List, [], ◌∷◌, All, length, ap, ◌∙◌, sym, subst, refl, arith}
use Rattle.std.specs.Prelude.{⊤}
use Rattle.std.proofs.lemmas.List.{length_push}
use Rattle.std.proofs.lemmas.List.Elements.{All-nil, All-cons, All-append}
use Rattle.std.proofs.lemmas.Result.{err_from_is_err_and}
use Rattle.gopass_base.specs.Text.{Text}
use Rattle.disk_model.specs.Files.{Files}
use Rattle.mount_table.specs.Mounts.{row_at}
use Rattle.store_state.specs.declared.seen.Seen.{Seen}
use Rattle.store_state.specs.Tree.{IsFullTree}
use Rattle.store_state.specs.Survey.{IsMountSeen, IsSeen, IsFullMount, IsSurvey}
use Rattle.disk_model.proofs.RunLemmas.{rests_then}
use Rattle.pending_journal.proofs.CostLemmas.{costs_err, costs_is, costs_then}
use Rattle.store_state.proofs.SurveyLemmas.{kept_then, seen_more, counts_more, full_there, lists_fault}
use Rattle.store_state.proofs.seen.survey.Goals as goal

pub loop-row-preserved : goal.loop-row-preserved
loop-row-preserved g c =
    let disk = g.D.Disk.meaning in
    let start = c.args.vault.now in
    let before = c.loop-row.vault in
    let now = c.add_mount.new.vault in
    let row = c.loop-row.row in
    let mounts = c.args.mounts.now in
    let was = c.loop-row.invariant in
    let count = c.in_ok-add_mount.field-0 in
    record {
      kept = kept_then start before now was.kept c.in_ok-add_mount.ensures.only_reads;
      stays = search rules;
      costs = λ free. costs_is refl (λ t. t) (costs_then (λ t. t) (λ t. refl) (was.costs free) (c.in_ok-add_mount.ensures.costs (was.kept.stuck ∙ free)));
      counted = ap length c.in_ok-push.ensures.items ∙ (length_push c.loop-row.counts.items count ∙ ap (λ n. n + 1) was.counted);
      few = subst (λ (counts : List ℕ). All (λ (n : ℕ). n ≤ 40000) counts) (sym c.in_ok-push.ensures.items)
          (All-append (λ (n : ℕ). n ≤ 40000) c.loop-row.counts.items (count ∷ []) was.few (All-cons (λ (n : ℕ). n ≤ 40000) count [] c.in_ok-add_mount.ensures.bound (All-nil (λ (n : ℕ). n ≤ 40000))));
      told = λ told. (let so_far = was.told told in
          let files = (disk.view start.disk).files in
          let mount = subst (λ (root : Text). IsMountSeen root files mounts row c.loop-row.seen c.add_mount.new.seen count) was.kept.root
          (subst (λ (f : Files). IsMountSeen before.root f mounts row c.loop-row.seen c.add_mount.new.seen count) so_far.0.files (c.in_ok-add_mount.ensures.lists told)) in (
            rests_then (disk.view start.disk) (disk.view before.disk) (disk.view now.disk) so_far.0 (c.in_ok-add_mount.ensures.only_reads.rests told),
            seen_more start.root files mounts row (row + 1) count c.loop-row.seen c.add_mount.new.seen refl so_far.1 mount,
            counts_more start.root files mounts row (row + 1) count c.loop-row.seen c.add_mount.new.seen c.loop-row.counts.items c.push.new.self.items refl was.counted c.in_ok-push.ensures.items mount so_far.2,
          ));
    }

pub returns-in_err-add_mount-clause-lists : goal.returns-in_err-add_mount-clause-lists
returns-in_err-add_mount-clause-lists g c told =
    let disk = g.D.Disk.meaning in
    let start = c.args.vault.now in
    let row = c.loop-row.row in
    let mounts = c.args.mounts.now in
    let was = c.loop-row.invariant in
    let so_far = was.told told in
    let files = (disk.view start.disk).files in
    let inside : row < length mounts = omega (arith, ap length c.rows-row-end.ensures.rows) in
    let p = err_from_is_err_and c.from_residual.result c.from_residual.ensures.1 in
    let before = c.loop-row.vault in
    let dir = (row_at mounts row).dir in
    let fault = c.in_err-add_mount.field-0.0 in
    rw (p.1, p.2) (lists_fault (λ count. IsMountSeen before.root (disk.view before.disk).files mounts row c.loop-row.seen c.add_mount.new.seen count)
    (λ (found : Seen × Vec ℕ Global). IsSurvey start.root files mounts found.0 found.1.items)
    (IsFullTree before.root (disk.view before.disk).files dir) (IsFullMount start.root files mounts) fault
    (λ full. full_there start.root files mounts row c.loop-row.counts.items inside
    (subst (λ (root : Text). IsFullTree root files dir) was.kept.root (subst (λ (f : Files). IsFullTree before.root f dir) so_far.0.files full)) so_far.2)
    (c.in_err-add_mount.ensures.lists told))

pub returns-clause-lists : goal.returns-clause-lists
returns-clause-lists g c told =
    let start = c.args.vault.now in
    let mounts = c.args.mounts.now in
    let was = c.loop-row.invariant in
    let so_far = was.told told in
    let files = (g.D.Disk.meaning.view start.disk).files in
    let all : c.loop-row.row ≡ length mounts = omega (arith, ap length c.rows-row-end.ensures.rows) in
    record {
      found = subst (λ n. IsSeen start.root files mounts n c.loop-row.seen) all so_far.1;
      as_many = was.counted ∙ all;
      each = λ k lt. so_far.2 k (omega (arith, lt, all));
    }

pub returns-in_err-add_mount-clause-costs : goal.returns-in_err-add_mount-clause-costs
returns-in_err-add_mount-clause-costs g c free =
    let was = c.loop-row.invariant in
    costs_err c.from_residual.result c.from_residual.ensures.0 (omega (arith, ap length c.rows-row-end.ensures.rows))
    (costs_then {R = ⊥} (λ t. tt) (λ t. absurd t) (was.costs free) (c.in_err-add_mount.ensures.costs (was.kept.stuck ∙ free)))

pub returns-in_err-push-clause-costs : goal.returns-in_err-push-clause-costs
returns-in_err-push-clause-costs g c free =
    let was = c.loop-row.invariant in
    costs_err c.from_residual-in_err-push.result c.from_residual-in_err-push.ensures.0 (omega (arith, ap length c.rows-row-end.ensures.rows))
    (costs_then {R = ⊤} (λ t. t) (λ t. refl) (was.costs free) (c.in_ok-add_mount.ensures.costs (was.kept.stuck ∙ free)))

pub returns-clause-costs : goal.returns-clause-costs
returns-clause-costs g c free = costs_is (omega (arith, ap length c.rows-row-end.ensures.rows)) (λ t. tt) (c.loop-row.invariant.costs free)
