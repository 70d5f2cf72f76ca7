use Rattle.std.proofs.Common.{rules, ◌++◌, ◌∷◌, [], map, string_bytes, ◌≡◌, false, ap, ◌∙◌, arith}
use Rattle.std.proofs.lemmas.List.{map-append}
use Rattle.command_words.specs.declared.kind.Kind.TheVariants.{Dashes, Given, Plain}
use Rattle.command_words.specs.Words.{kind_at}
use Rattle.command_words.proofs.Steps.{next_dashes, next_option, next_plain, counted, room}
use Rattle.command_words.proofs.Taken.{taken_more}
use Rattle.command_words.proofs.reading.sort.Goals as goal
use Rattle.command_words.proofs.reading.sort.Goals.{in-Dashes, in-Given, in-Plain+in_ok-clone-in-Plain+in_ok-push-in-Plain}

pub loop-index-preserved : goal.loop-index-preserved
loop-index-preserved c =
    let items = c.args.words.now in
    let n = c.loop-index.index in
    let word = c.index-words-index.result in
    let read = c.loop-index.invariant.read in
    elim c.match-kind.branch [
      | in-Dashes w ↦
          let at : kind_at c.loop-index.is_behind (string_bytes word) ≡ Dashes = search rules in
          let good = counted string_bytes c.loop-index.plain.items c.form_of-form.result c.loop-index.flags c.len.result c.kind_of-kind.result Dashes c.is_bad.result false c.is_bad.ensures c.if-is_bad.false (search rules) w.in-Dashes.is in
          rw (w.flags-is, w.plain-is, w.is_behind-is) (record {
            read = next_dashes string_bytes items n word (search rules) (search rules) read at good;
            most = c.loop-index.invariant.most;
            form = c.loop-index.invariant.form;
            taken = c.loop-index.invariant.taken;
          })
      | in-Given w ↦
          let at : kind_at c.loop-index.is_behind (string_bytes word) ≡ Given w.in-Given.flag = search rules in
          let good = counted string_bytes c.loop-index.plain.items c.form_of-form.result c.loop-index.flags c.len.result c.kind_of-kind.result (Given w.in-Given.flag) c.is_bad.result false c.is_bad.ensures c.if-is_bad.false (search rules) w.in-Given.is in
          rw (w.flags-is, w.plain-is, w.is_behind-is, w.with-flags.ensures) (record {
            read = next_option string_bytes items n word (search rules) (search rules) read w.in-Given.flag at good;
            most = c.loop-index.invariant.most;
            form = c.loop-index.invariant.form;
            taken = taken_more c.form_of-form.result.flags c.loop-index.flags w.in-Given.flag good c.loop-index.invariant.taken;
          })
      | in-Plain+in_ok-clone-in-Plain+in_ok-push-in-Plain w ↦
          let at : kind_at c.loop-index.is_behind (string_bytes word) ≡ Plain = search rules in
          let good = counted string_bytes c.loop-index.plain.items c.form_of-form.result c.loop-index.flags c.len.result c.kind_of-kind.result Plain c.is_bad.result false c.is_bad.ensures c.if-is_bad.false (search rules) w.in-Plain.is in
          let copied : string_bytes w.in_ok-clone-in-Plain.field-0 ≡ string_bytes word = search rules in
          let pushed : map string_bytes w.push.new.self.items ≡ map string_bytes c.loop-index.plain.items ++ string_bytes word ∷ [] = ap (map string_bytes) w.in_ok-push-in-Plain.ensures.items ∙ map-append string_bytes c.loop-index.plain.items (w.in_ok-clone-in-Plain.field-0 ∷ []) ∙ ap (λ t. map string_bytes c.loop-index.plain.items ++ t ∷ []) copied in
          rw (w.flags-is, w.plain-is, w.is_behind-is, pushed) (record {
            read = next_plain string_bytes items n word (search rules) (search rules) read at good;
            most = omega (arith, room string_bytes c.loop-index.plain.items c.form_of-form.result c.loop-index.flags good, w.in_ok-push-in-Plain.ensures.len);
            form = c.loop-index.invariant.form;
            taken = c.loop-index.invariant.taken;
          })
    ]
