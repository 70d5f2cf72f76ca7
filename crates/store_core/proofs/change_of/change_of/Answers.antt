use Rattle.std.proofs.Common.{◌≤◌, ◌+◌, ◌++◌, List, Option, Vec, Global, ℕ, length, take, drop, sym, ◌∙◌, ap, subst, arith}
use Rattle.gopass_base.specs.Text.{Text}
use Rattle.recipient_files.specs.Ids.{Ids}
use Rattle.mount_table.specs.Mounts.{IsTable}
use Rattle.store_core.specs.Edit.{Differ, Entry}
use Rattle.store_core.specs.Entries.{rule_entry, rules_in, secret_entry, secrets_in, template_entry, templates_in}
use Rattle.store_core.proofs.EntryLemmas.{about_behind, about_first, about_last, next_behind, next_last, next_of}
use Rattle.store_core.proofs.ChangeOfLemmas.{has_more, may_add}
use Rattle.store_core.proofs.change_of.change_of.Goals as goal

pub add_file-requires : goal.add_file-requires
add_file-requires c =
    let root = c.args.root.now in
    let mounts = c.args.mounts.now in
    let edit = c.args.edit.now in
    let items = c.deref-folder-items.result.now in
    let i = c.loop-folder.folder-index in
    let item = c.loop-folder-item.result in
    let rest = secrets_in edit.secrets.items ++ templates_in edit.templates.items in
    let all = sym (ap (λ (l : List (Text × Option Ids)). rules_in l ++ rest) c.deref-folder-items.ensures.value) ∙ about_first rule_entry items i item (omega (arith, c.loop-folder-test.true)) c.loop-folder-item.is rest in
    may_add root mounts (rules_in (take i items)) (rules_in (drop (i + 1) items) ++ rest) (rule_entry item) c.loop-folder.change c.in_ok-rule_file.field-0.path (subst (λ (r : Text). IsTable r mounts) c.requires.root c.rows.ensures.table) c.loop-folder.invariant c.in_ok-rule_file.ensures.good c.in_ok-rule_file.ensures.file.0
    (subst Differ all c.requires.differ) (subst (λ (l : List Entry). length l ≤ 16400) all c.requires.few)

pub loop-folder-preserved : goal.loop-folder-preserved
loop-folder-preserved c =
    let items = c.deref-folder-items.result.now in
    let i = c.loop-folder.folder-index in
    let item = c.loop-folder-item.result in
    has_more c.args.root.now c.args.mounts.now (rules_in (take i items)) (rules_in (take (i + 1) items)) (rule_entry item) c.loop-folder.change c.add_file.new.change c.in_ok-rule_file.field-0
    (next_of rule_entry items i item (omega (arith, c.loop-folder-test.true)) c.loop-folder-item.is) c.loop-folder.invariant c.in_ok-rule_file.ensures.good c.in_ok-rule_file.ensures.file c.in_ok-add_file.ensures.puts c.in_ok-add_file.ensures.drops c.add_file.ensures.root

pub add_file-requires-in-loop-name : goal.add_file-requires-in-loop-name
add_file-requires-in-loop-name c =
    let root = c.args.root.now in
    let mounts = c.args.mounts.now in
    let edit = c.args.edit.now in
    let items = c.deref-name-items.result.now in
    let i = c.loop-name.name-index in
    let item = c.loop-name-item.result in
    let rules = rules_in edit.rules.items in
    let rest = templates_in edit.templates.items in
    let all = sym (ap (λ (l : List (Text × Option (Vec ℕ Global))). rules ++ (secrets_in l ++ rest)) c.deref-name-items.ensures.value) ∙ about_behind secret_entry items i item (omega (arith, c.loop-name-test.true)) c.loop-name-item.is rules rest in
    may_add root mounts (rules ++ secrets_in (take i items)) (secrets_in (drop (i + 1) items) ++ rest) (secret_entry item) c.loop-name.change c.in_ok-secret_file.field-0.path (subst (λ (r : Text). IsTable r mounts) c.requires.root c.rows.ensures.table) c.loop-name.invariant c.in_ok-secret_file.ensures.good c.in_ok-secret_file.ensures.file.0
    (subst Differ all c.requires.differ) (subst (λ (l : List Entry). length l ≤ 16400) all c.requires.few)

pub loop-name-preserved : goal.loop-name-preserved
loop-name-preserved c =
    let items = c.deref-name-items.result.now in
    let i = c.loop-name.name-index in
    let item = c.loop-name-item.result in
    let rules = rules_in c.args.edit.now.rules.items in
    has_more c.args.root.now c.args.mounts.now (rules ++ secrets_in (take i items)) (rules ++ secrets_in (take (i + 1) items)) (secret_entry item) c.loop-name.change c.add_file-in-loop-name.new.change c.in_ok-secret_file.field-0
    (next_behind secret_entry items i item (omega (arith, c.loop-name-test.true)) c.loop-name-item.is rules) c.loop-name.invariant c.in_ok-secret_file.ensures.good c.in_ok-secret_file.ensures.file c.in_ok-add_file-2.ensures.puts c.in_ok-add_file-2.ensures.drops c.add_file-in-loop-name.ensures.root

pub add_file-requires-in-loop-owner : goal.add_file-requires-in-loop-owner
add_file-requires-in-loop-owner c =
    let root = c.args.root.now in
    let mounts = c.args.mounts.now in
    let edit = c.args.edit.now in
    let items = c.deref-owner-items.result.now in
    let i = c.loop-owner.owner-index in
    let item = c.loop-owner-item.result in
    let rules = rules_in edit.rules.items in
    let secrets = secrets_in edit.secrets.items in
    let all = sym (ap (λ (l : List (Text × Option (Vec ℕ Global))). rules ++ (secrets ++ templates_in l)) c.deref-owner-items.ensures.value) ∙ about_last template_entry items i item (omega (arith, c.loop-owner-test.true)) c.loop-owner-item.is rules secrets in
    may_add root mounts (rules ++ (secrets ++ templates_in (take i items))) (templates_in (drop (i + 1) items)) (template_entry item) c.loop-owner.change c.in_ok-template_file.field-0.path (subst (λ (r : Text). IsTable r mounts) c.requires.root c.rows.ensures.table) c.loop-owner.invariant c.in_ok-template_file.ensures.good c.in_ok-template_file.ensures.file.0
    (subst Differ all c.requires.differ) (subst (λ (l : List Entry). length l ≤ 16400) all c.requires.few)

pub loop-owner-preserved : goal.loop-owner-preserved
loop-owner-preserved c =
    let items = c.deref-owner-items.result.now in
    let i = c.loop-owner.owner-index in
    let item = c.loop-owner-item.result in
    let rules = rules_in c.args.edit.now.rules.items in
    let secrets = secrets_in c.args.edit.now.secrets.items in
    has_more c.args.root.now c.args.mounts.now (rules ++ (secrets ++ templates_in (take i items))) (rules ++ (secrets ++ templates_in (take (i + 1) items))) (template_entry item) c.loop-owner.change c.add_file-in-loop-owner.new.change c.in_ok-template_file.field-0
    (next_last template_entry items i item (omega (arith, c.loop-owner-test.true)) c.loop-owner-item.is rules secrets) c.loop-owner.invariant c.in_ok-template_file.ensures.good c.in_ok-template_file.ensures.file c.in_ok-add_file-3.ensures.puts c.in_ok-add_file-3.ensures.drops c.add_file-in-loop-owner.ensures.root
