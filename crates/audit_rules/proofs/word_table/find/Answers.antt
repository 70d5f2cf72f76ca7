use Rattle.std.proofs.Common.{rules, sym}
use Rattle.std.proofs.lemmas.Fn.{always_returns_same}
use Rattle.audit_rules.specs.Words.{word_of}
use Rattle.audit_rules.proofs.TableLemmas.{order, found_at, found_nowhere}
use Rattle.audit_rules.proofs.word_table.find.Goals as goal

pub returns-in-Ok : goal.returns-in-Ok
returns-in-Ok g c =
    let by_word = c.binary_search_by.ensures.position (λ row. order (word_of row) c.args.word.now) (always_returns_same _ _ _ (λ a r h called. search rules)) in
    sym (found_at c.args.table.now c.args.word.now c.binary_search_by.result c.requires by_word c.in-Ok.place c.index-table-place.result c.in-Ok.is (search rules))

pub returns-in-Err : goal.returns-in-Err
returns-in-Err g c =
    let by_word = c.binary_search_by.ensures.position (λ row. order (word_of row) c.args.word.now) (always_returns_same _ _ _ (λ a r h called. search rules)) in
    sym (found_nowhere c.args.table.now c.args.word.now c.binary_search_by.result c.requires by_word c.in-Err.field-0 c.in-Err.is)
