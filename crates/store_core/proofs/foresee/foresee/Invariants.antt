use Rattle.std.proofs.Common.{◌++◌, take}
use Rattle.store_core.specs.Applying.{IsMadeBy}
use Rattle.store_core.specs.Entries.{rules_in, secrets_in, templates_in}
use Rattle.store_core.proofs.foresee.foresee.Given as goal

abbrev pub invariant-loop-folder : goal.invariant-loop-folder
invariant-loop-folder l = IsMadeBy (rules_in (take l.folder-index l.folder-items)) l.found l.next

abbrev pub invariant-loop-name : goal.invariant-loop-name
invariant-loop-name l = IsMadeBy (rules_in l.edit.rules.items ++ secrets_in (take l.name-index l.name-items)) l.found l.next

abbrev pub invariant-loop-owner : goal.invariant-loop-owner
invariant-loop-owner l = IsMadeBy (rules_in l.edit.rules.items ++ (secrets_in l.edit.secrets.items ++ templates_in (take l.owner-index l.owner-items))) l.found l.next
