-- The entries of an edit.
use Rattle.std.specs.Prelude.{ℕ, List, ◌++◌, map, Option, None, Some, Vec}
use Rattle.gopass_base.specs.Text.{Text}
use Rattle.recipient_files.specs.Ids.{Ids}
use Rattle.store_core.specs.declared.edit.Edit.{Edit}
use Rattle.store_core.specs.Edit.{Entry, OfSecret, OfRule, OfTemplate}

-- bytes as a text
abbrev pub text_in : {A : Type 0} → Option (Vec ℕ A) → Option Text
text_in None = None
text_in (Some bytes) = Some bytes.items

-- a rule, a secret and a template of an edit
abbrev pub rule_entry : Text × Option Ids → Entry
rule_entry rule = OfRule rule.0 rule.1

abbrev pub secret_entry : {A : Type 0} → Text × Option (Vec ℕ A) → Entry
secret_entry secret = OfSecret secret.0 (text_in secret.1)

abbrev pub template_entry : {A : Type 0} → Text × Option (Vec ℕ A) → Entry
template_entry template = OfTemplate template.0 (text_in template.1)

abbrev pub rules_in : List (Text × Option Ids) → List Entry
rules_in rules = map rule_entry rules

abbrev pub secrets_in : {A : Type 0} → List (Text × Option (Vec ℕ A)) → List Entry
secrets_in secrets = map secret_entry secrets

abbrev pub templates_in : {A : Type 0} → List (Text × Option (Vec ℕ A)) → List Entry
templates_in templates = map template_entry templates

-- its rules, then its secrets, then its templates
abbrev pub entries_in : Edit → List Entry
entries_in edit = rules_in edit.rules.items ++ (secrets_in edit.secrets.items ++ templates_in edit.templates.items)
