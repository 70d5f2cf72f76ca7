use Rattle.std.proofs.Common.{◌≡◌, Some, sym, rules}
use Rattle.path_rules.specs.RuleMap.{rule_at}
use Rattle.listing_texts.proofs.RuleLemmas.{has_rule, one_more, all_lines}
use Rattle.listing_texts.proofs.rule_lines.recipients_text.Goals as goal

pub unreachable-requires : goal.unreachable-requires
unreachable-requires c =
    has_rule c.args.rules.now c.folders-folders.result.now c.loop-folder.folder-index c.folder-item.result (record { keys = c.folders-folders.ensures; inside = c.loop-folder-test.true; is = c.folder-item.is }) (sym c.in_default.ensures)

pub loop-folder-preserved : goal.loop-folder-preserved
loop-folder-preserved c =
    let ruled : rule_at c.args.rules.now c.folder-item.result ≡ Some c.in-Some.set.now = search rules in
    one_more c.args.rules.now c.folders-folders.result.now c.loop-folder.folder-index c.folder-item.result c.in-Some.set.now c.loop-folder.text.items c.push_rule.new.text.items
    (record { keys = c.folders-folders.ensures; inside = c.loop-folder-test.true; is = c.folder-item.is }) ruled c.loop-folder.invariant c.in_ok-push_rule.ensures

pub returns : goal.returns
returns c = all_lines c.args.rules.now c.folders-folders.result.now c.loop-folder.folder-index c.loop-folder.text.items c.folders-folders.ensures c.loop-folder-test.false c.loop-folder.invariant
