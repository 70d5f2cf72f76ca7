use Rattle.std.proofs.Common.{◌++◌, take}
use Rattle.store_core.specs.Applying.{IsChangeOf}
use Rattle.store_core.specs.Entries.{rules_in, secrets_in, templates_in}
use Rattle.store_core.proofs.change_of.change_of.Given as goal

abbrev pub invariant-loop-folder : goal.invariant-loop-folder
invariant-loop-folder l = IsChangeOf l.root l.mounts (rules_in (take l.folder-index l.folder-items)) l.change

abbrev pub invariant-loop-name : goal.invariant-loop-name
invariant-loop-name l = IsChangeOf l.root l.mounts (rules_in l.edit.rules.items ++ secrets_in (take l.name-index l.name-items)) l.change

abbrev pub invariant-loop-owner : goal.invariant-loop-owner
invariant-loop-owner l = IsChangeOf l.root l.mounts (rules_in l.edit.rules.items ++ (secrets_in l.edit.secrets.items ++ templates_in (take l.owner-index l.owner-items))) l.change
