use Rattle.std.proofs.Common.{rules, ◌≡◌, ◌+◌, ◌<◌, ◌++◌, ◌∷◌, [], length, take, refl, ap, sym, ◌∙◌, subst, arith}
use Rattle.std.specs.Prelude.{⊤}
use Rattle.std.specs.FinMap as map
use Rattle.std.specs.Ordering.{nat_cmp}
use Rattle.std.specs.Cmp.Lexicographic.{slice_cmp}
use Rattle.std.proofs.lemmas.List.{take_more}
use Rattle.gopass_base.specs.Text.{Text}
use Rattle.disk_model.specs.Files.{Files}
use Rattle.path_rules.specs.RuleMap.{RuleMap}
use Rattle.recipient_files.specs.Ids.{Ids}
use Rattle.store_state.specs.RuleFiles.{AreRules, IsRuleThere}
use Rattle.store_state.proofs.RuleFileLemmas.{none_are, one_more, none_before}
use Rattle.disk_model.proofs.RunLemmas.{rests_then, rests_none}
use Rattle.pending_journal.proofs.CostLemmas.{costs_err, costs_is, costs_then, costs_zero}
use Rattle.store_state.proofs.SurveyLemmas.{kept_then}
use Rattle.store_state.proofs.rule_files.read_rules.Goals as goal

pub loop-folder-init : goal.loop-folder-init
loop-folder-init g c =
    let disk = g.D.Disk.meaning in
    let start = c.args.vault.now in
    let files = (disk.view start.disk).files in
    record {
      kept = record { root = refl; commits = refl; stuck = refl; rests = λ told. rests_none (disk.view start.disk) };
      stays = refl;
      costs = costs_zero _;
      few = omega (arith, ap (λ (rules : RuleMap). map.len rules) c.new-rules.ensures, map.len-empty (slice_cmp nat_cmp) Ids);
      told = λ told. (rests_none (disk.view start.disk), subst (AreRules start.root files c.args.mounts.now []) (sym c.new-rules.ensures) (none_are start.root files c.args.mounts.now));
    }

pub loop-folder-preserved : goal.loop-folder-preserved
loop-folder-preserved g c =
    let disk = g.D.Disk.meaning in
    let start = c.args.vault.now in
    let before = c.loop-folder.vault in
    let now = c.add_rule.new.vault in
    let mounts = c.args.mounts.now in
    let folders = c.args.folders.now in
    let i = c.loop-folder.folder-index in
    let item = c.folder-item.result in
    let was = c.loop-folder.invariant in
    let lt : i < length folders = omega arith in
    let files = (disk.view start.disk).files in
    let more : take (i + 1) folders ≡ take i folders ++ item ∷ [] = take_more folders i item lt ∙ ap (λ f. take i folders ++ f ∷ []) (sym c.folder-item.is) in
    record {
      kept = kept_then start before now was.kept c.in_ok-add_rule.ensures.only_reads;
      stays = search rules;
      costs = costs_is refl (λ t. t) (costs_then (λ t. t) (λ t. refl) was.costs c.in_ok-add_rule.ensures.costs);
      few = (let so_far = was.few in let few = c.in_ok-add_rule.ensures.few in omega (arith, so_far, few));
      told = λ told. (let so_far = was.told told in
          let (rule, there, is) = c.in_ok-add_rule.ensures.adds told in
          let here = subst (λ (root : Text). IsRuleThere root files mounts item rule) was.kept.root (subst (λ (f : Files). IsRuleThere before.root f mounts item rule) so_far.0.files there) in (
            rests_then (disk.view start.disk) (disk.view before.disk) (disk.view now.disk) so_far.0 (c.in_ok-add_rule.ensures.only_reads.rests told),
            one_more start.root files mounts (take i folders) (take (i + 1) folders) item c.loop-folder.rules c.add_rule.new.rules rule more (none_before folders i item c.requires.rising lt c.folder-item.is) so_far.1 here is,
          ));
    }

pub returns-in_err-add_rule-clause-costs : goal.returns-in_err-add_rule-clause-costs
returns-in_err-add_rule-clause-costs g c =
    costs_err c.from_residual.result c.from_residual.ensures.0 (omega arith) (costs_then {R = ⊥} (λ t. tt) (λ t. absurd t) c.loop-folder.invariant.costs c.in_err-add_rule.ensures.costs)

pub returns-clause-costs : goal.returns-clause-costs
returns-clause-costs g c = costs_is (omega arith) (λ t. tt) c.loop-folder.invariant.costs
