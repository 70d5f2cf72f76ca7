use Rattle.std.proofs.Common.{inl, inr, refl, subst, get_or}
use Rattle.std.specs.Prelude.{Option}
use Rattle.gopass_base.specs.Text.{Text}
use Rattle.store_state.specs.Places.{IsFolderFileAt, rule_file, template_file}
use Rattle.store_state.proofs.KindLemmas.{IsFolderWith, alias_at}
use Rattle.store_state.proofs.kind.folder_kind.Goals as goal

pub returns-in-Some-2 : goal.returns-in-Some-2
returns-in-Some-2 c =
    let own = (get_or c.rows-rows.result.now c.args.row c.index-rows-row-2.result).alias in
    let alias = alias_at own c.rows-rows.result.now c.args.mounts.now c.args.row c.index-rows-row-2.result refl c.rows-rows.ensures.rows c.requires in
    let was = subst (λ (found : Option Text). IsFolderWith template_file own c.args.rest.now found) c.in-Some-2.is c.in_ok-folder-2.ensures in
    c.template_kind.ensures c.args.rest.now (subst (λ (a : Text). IsFolderFileAt template_file a c.args.rest.now c.in-Some-2.folder) alias was)

pub returns-in-None : goal.returns-in-None
returns-in-None c =
    let rule_alias = (get_or c.rows-rows.result.now c.args.row c.index-rows-row.result).alias in
    let template_alias = (get_or c.rows-rows.result.now c.args.row c.index-rows-row-2.result).alias in
    let first = alias_at rule_alias c.rows-rows.result.now c.args.mounts.now c.args.row c.index-rows-row.result refl c.rows-rows.ensures.rows c.requires in
    let second = alias_at template_alias c.rows-rows.result.now c.args.mounts.now c.args.row c.index-rows-row-2.result refl c.rows-rows.ensures.rows c.requires in
    let no_rule = subst (λ (found : Option Text). IsFolderWith rule_file rule_alias c.args.rest.now found) c.in_default.is c.in_ok-folder.ensures in
    let no_template = subst (λ (found : Option Text). IsFolderWith template_file template_alias c.args.rest.now found) c.in-None.is c.in_ok-folder-2.ensures in
    λ folder h. elim h [
      | inl rule ↦ subst (λ (a : Text). (folder : Text) → ¬ IsFolderFileAt rule_file a c.args.rest.now folder) first no_rule folder rule
      | inr template ↦ subst (λ (a : Text). (folder : Text) → ¬ IsFolderFileAt template_file a c.args.rest.now folder) second no_template folder template
    ]
