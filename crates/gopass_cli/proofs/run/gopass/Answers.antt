use Rattle.std.proofs.Common.{◌≢◌, ◌∙◌, inl, inr, ⊎_elim, map}
use Rattle.std.specs.Prelude.{string_bytes}
use Rattle.request_body.specs.Bodies.{input_of}
use Rattle.gopass_cli.specs.declared.status.Status.TheVariants.{NoMemory}
use Rattle.gopass_cli.specs.Statuses.{code}
use Rattle.gopass_cli.specs.Printed.{printed, stream_of}
use Rattle.gopass_cli.specs.Replies.{said_in}
use Rattle.gopass_cli.specs.Run.{RunSays, faults_of}
use Rattle.gopass_cli.proofs.RunLemmas.{said_calmly}
use Rattle.gopass_cli.proofs.PrintLemmas.{prints_all, printed_status}
use Rattle.gopass_cli.proofs.SafeLemmas.{none_printed, went_printed}
use Rattle.gopass_cli.proofs.run.gopass.Goals as goal

pub returns-clause-ran : goal.returns-clause-ran
returns-clause-ran g c told tells ring have =
    (said_in c.answer-reply.result.reply, c.answer-reply.ensures.answers told tells ring have, c.print-status.ensures.printed)

pub returns-clause-complete : goal.returns-clause-complete
returns-clause-complete g c told tells ring have calm memory =
    let old = faults_of g.D.Disk.meaning c.args.disk g.C.Cipher.meaning c.args.tools.now.items in
    let new = faults_of g.D.Disk.meaning c.answer-reply.result.disk g.C.Cipher.meaning c.answer-reply.new.tools.items in
    let said = said_in c.answer-reply.result.reply in
    let all = prints_all (printed said) c.print-status.result (stream_of g.O.Sink.meaning c.args.out.now) (stream_of g.O.Sink.meaning c.print-status.new.out) (stream_of g.E.Sink.meaning c.args.err.now) (stream_of g.E.Sink.meaning c.print-status.new.err) calm.out calm.err c.print-status.ensures.printed in
    let had : said.status ≢ code NoMemory = λ e. memory (all.status_is ∙ e) in
    let says = said_calmly (RunSays (map string_bytes c.args.words.now) g.C.Cipher.meaning.opens c.args.root.now (g.D.Disk.meaning.view c.args.disk).files (input_of g.S.Source.meaning c.args.input.now c.answer-reply.new.input) ring) old new said calm.disk calm.tools had (c.answer-reply.ensures.answers told tells ring have) in
    (said, says, all)

pub returns-clause-safe : goal.returns-clause-safe
returns-clause-safe g c told tells ring have before stand =
    let opens = g.C.Cipher.meaning.opens in
    let root = c.args.root.now in
    let input = input_of g.S.Source.meaning c.args.input.now c.answer-reply.new.input in
    let v0 = g.D.Disk.meaning.view c.args.disk in
    let v1 = g.D.Disk.meaning.view c.answer-reply.result.disk in
    let f0 = faults_of g.D.Disk.meaning c.args.disk g.C.Cipher.meaning c.args.tools.now.items in
    let f1 = faults_of g.D.Disk.meaning c.answer-reply.result.disk g.C.Cipher.meaning c.answer-reply.new.tools.items in
    let said = said_in c.answer-reply.result.reply in
    let same = printed_status (printed said) c.print-status.result (stream_of g.O.Sink.meaning c.args.out.now) (stream_of g.O.Sink.meaning c.print-status.new.out) (stream_of g.E.Sink.meaning c.args.err.now) (stream_of g.E.Sink.meaning c.print-status.new.err) c.print-status.ensures.printed in
    ⊎_elim
    (λ none. inl (none_printed opens root before v0 v1 (printed said) c.print-status.result (stream_of g.O.Sink.meaning c.args.out.now) (stream_of g.O.Sink.meaning c.print-status.new.out) (stream_of g.E.Sink.meaning c.args.err.now) (stream_of g.E.Sink.meaning c.print-status.new.err) c.print-status.ensures.printed none))
    (λ (command, words, went). inr (command, words, went_printed opens root ring command input before v0 v1 f0 f1 said.status c.print-status.result same went)) (c.answer-reply.ensures.safe told tells ring have before stand)
