use Rattle.std.proofs.Common.{rules, ◌≡◌, ◌∙◌, true, false, bytes_eq, ap}
use Rattle.store_core.specs.Once.{each_once}
use Rattle.store_core.proofs.DifferLemmas.{rules_twice, secrets_twice, templates_left}
use Rattle.store_core.proofs.edit.Edit.entries_differ.Goals as goal

pub returns-then-not-has_each_once : goal.returns-then-not-has_each_once
returns-then-not-has_each_once c =
    let off : c.has_each_once.result ≡ false = search rules in
    rules_twice c.args.self.now c.has_each_once.result (c.has_each_once.ensures ∙ ap (each_once bytes_eq) c.deref.ensures.value) off

pub returns-then-not-has_each_once-2 : goal.returns-then-not-has_each_once-2
returns-then-not-has_each_once-2 c =
    let off : c.has_each_once-2.result ≡ false = search rules in
    secrets_twice c.args.self.now c.has_each_once-2.result (c.has_each_once-2.ensures ∙ ap (each_once bytes_eq) c.deref-2.ensures.value) off

pub returns : goal.returns
returns c =
    let first : c.has_each_once.result ≡ true = search rules in
    let second : c.has_each_once-2.result ≡ true = search rules in
    templates_left c.args.self.now c.has_each_once.result c.has_each_once-2.result c.has_each_once-3.result
    (c.has_each_once.ensures ∙ ap (each_once bytes_eq) c.deref.ensures.value) first
    (c.has_each_once-2.ensures ∙ ap (each_once bytes_eq) c.deref-2.ensures.value) second
    (c.has_each_once-3.ensures ∙ ap (each_once bytes_eq) c.deref-3.ensures.value)
