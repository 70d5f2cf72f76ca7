use Rattle.std.proofs.Common.{◌++◌, ◌+◌, take, arith}
use Rattle.store_core.specs.Entries.{rule_entry, rules_in, secret_entry, secrets_in, template_entry, templates_in}
use Rattle.store_core.proofs.EntryLemmas.{next_behind, next_last, next_of}
use Rattle.store_core.proofs.ForeseeLemmas.{made_more}
use Rattle.store_core.proofs.foresee.foresee.Goals as goal

pub loop-folder-preserved : goal.loop-folder-preserved
loop-folder-preserved c =
    let items = c.deref-folder-items.result.now in
    let i = c.loop-folder.folder-index in
    let item = c.loop-folder-item.result in
    made_more (rules_in (take i items)) (rules_in (take (i + 1) items)) (rule_entry item) c.args.found.now c.loop-folder.next c.foresee_rule.new.found
    (next_of rule_entry items i item (omega (arith, c.loop-folder-test.true)) c.loop-folder-item.is) c.loop-folder.invariant c.in_ok-foresee_rule.ensures

pub loop-name-preserved : goal.loop-name-preserved
loop-name-preserved c =
    let items = c.deref-name-items.result.now in
    let i = c.loop-name.name-index in
    let item = c.loop-name-item.result in
    let rules = rules_in c.args.edit.now.rules.items in
    made_more (rules ++ secrets_in (take i items)) (rules ++ secrets_in (take (i + 1) items)) (secret_entry item) c.args.found.now c.loop-name.next c.foresee_secret.new.found
    (next_behind secret_entry items i item (omega (arith, c.loop-name-test.true)) c.loop-name-item.is rules) c.loop-name.invariant c.in_ok-foresee_secret.ensures

pub loop-owner-preserved : goal.loop-owner-preserved
loop-owner-preserved c =
    let items = c.deref-owner-items.result.now in
    let i = c.loop-owner.owner-index in
    let item = c.loop-owner-item.result in
    let rules = rules_in c.args.edit.now.rules.items in
    let secrets = secrets_in c.args.edit.now.secrets.items in
    made_more (rules ++ (secrets ++ templates_in (take i items))) (rules ++ (secrets ++ templates_in (take (i + 1) items))) (template_entry item) c.args.found.now c.loop-owner.next c.foresee_template.new.found
    (next_last template_entry items i item (omega (arith, c.loop-owner-test.true)) c.loop-owner-item.is rules secrets) c.loop-owner.invariant c.in_ok-foresee_template.ensures
