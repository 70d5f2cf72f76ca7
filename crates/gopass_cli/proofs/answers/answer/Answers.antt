use Rattle.std.proofs.Common.{inl, inr, ⊎_elim, refl, sym, subst, map, arith}
use Rattle.std.specs.Prelude.{ℕ, Result, Ok, Err, string_bytes}
use Rattle.command_words.specs.declared.reading.WordsFault.{WordsFault}
use Rattle.command_words.specs.Invocations.{Invocation, invocation_of}
use Rattle.command_words.specs.Words.{words_in}
use Rattle.command_words.specs.Reads.{ReadsWords}
use Rattle.gopass_cli.specs.declared.status.Status.TheVariants.{BadWords}
use Rattle.gopass_cli.specs.Said.{refused}
use Rattle.gopass_cli.specs.Texts.{bad_words}
use Rattle.request_body.specs.Bodies.{input_of}
use Rattle.gopass_cli.specs.Opening.{SaysOfCommand}
use Rattle.gopass_cli.specs.Replies.{said_in}
use Rattle.gopass_cli.specs.Run.{SaidInRun, RunSays, SaysOfWords, faults_of}
use Rattle.gopass_cli.proofs.RunLemmas.{runs_meant, runs_unsaid, runs_weaker}
use Rattle.gopass_cli.proofs.SafeLemmas.{same_kept, same_safe, tells_memory, tells_words}
use Rattle.gopass_cli.proofs.answers.answer.Goals as goal

pub returns-in-Ok-new-clause-answers : goal.returns-in-Ok-new-clause-answers
returns-in-Ok-new-clause-answers g c told tells ring have =
    let opens = g.C.Cipher.meaning.opens in
    let input = input_of g.S.Source.meaning c.args.input.now c.answer_command.new.input in
    let root = c.args.root.now in
    let files = (g.D.Disk.meaning.view c.args.disk).files in
    let old = faults_of g.D.Disk.meaning c.args.disk g.C.Cipher.meaning c.args.tools.now.items in
    let new = faults_of g.D.Disk.meaning c.answer_command.result.disk g.C.Cipher.meaning c.answer_command.new.tools.items in
    let said = said_in c.answer_command.result.reply in
    subst (λ (invocation : Result Invocation ℕ). SaidInRun (SaysOfWords invocation opens root files input ring) old new said) (sym c.in-Ok.ensures)
    (runs_weaker (SaysOfCommand opens root files input ring c.in-Ok.command) (SaysOfWords (Ok (invocation_of c.in-Ok.command)) opens root files input ring) old new said
    (λ events h. (c.in-Ok.command, refl, h)) (c.answer_command.ensures.answers told tells ring have))

pub returns-in-Err-Bad-clause-answers : goal.returns-in-Err-Bad-clause-answers
returns-in-Err-Bad-clause-answers g c told tells ring have =
    let opens = g.C.Cipher.meaning.opens in
    let input = input_of g.S.Source.meaning c.args.input.now c.args.input.now in
    let root = c.args.root.now in
    let files = (g.D.Disk.meaning.view c.args.disk).files in
    let now = faults_of g.D.Disk.meaning c.args.disk g.C.Cipher.meaning c.args.tools.now.items in
    let bad = subst (λ (fault : WordsFault). ReadsWords (Err fault) (words_in (map string_bytes c.args.words.now))) c.in-Err-Bad.field-0-is c.in-Err-Bad.ensures in
    subst (λ (invocation : Result Invocation ℕ). SaidInRun (SaysOfWords invocation opens root files input ring) now now (said_in c.refuse_words.result)) (sym bad)
    (runs_meant (SaysOfWords (Err c.in-Err-Bad.at) opens root files input ring) now now (omega arith) (refused BadWords (bad_words c.in-Err-Bad.at)) (said_in c.refuse_words.result) (refl, record { left = refl; taken = refl; ends = refl; faults = refl }) c.refuse_words.ensures)

pub returns-in-Err-NoMemory-clause-answers : goal.returns-in-Err-NoMemory-clause-answers
returns-in-Err-NoMemory-clause-answers g c told tells ring have =
    let now = faults_of g.D.Disk.meaning c.args.disk g.C.Cipher.meaning c.args.tools.now.items in
    runs_unsaid (RunSays (map string_bytes c.args.words.now) g.C.Cipher.meaning.opens c.args.root.now (g.D.Disk.meaning.view c.args.disk).files (input_of g.S.Source.meaning c.args.input.now c.args.input.now) ring) now now (omega arith) (said_in c.no_memory-in-Err-NoMemory.result) c.no_memory-in-Err-NoMemory.ensures

pub returns-in-Ok-new-clause-safe : goal.returns-in-Ok-new-clause-safe
returns-in-Ok-new-clause-safe g c told tells ring have before stand =
    ⊎_elim (λ none. inl none) (λ went. inr (c.in-Ok.command, c.in-Ok.ensures, went)) (c.answer_command.ensures.safe told tells ring have before stand)

pub returns-in-Err-Bad-clause-safe : goal.returns-in-Err-Bad-clause-safe
returns-in-Err-Bad-clause-safe g c told tells ring have before stand = inl (record {
  tells = tells_words (said_in c.refuse_words.result) (refused BadWords (bad_words c.in-Err-Bad.at)) refl c.refuse_words.ensures;
  any_moment = same_safe g.C.Cipher.meaning.opens c.args.root.now before (g.D.Disk.meaning.view c.args.disk) stand;
  kept = same_kept g.C.Cipher.meaning.opens c.args.root.now (g.D.Disk.meaning.view c.args.disk);
})

pub returns-in-Err-NoMemory-clause-safe : goal.returns-in-Err-NoMemory-clause-safe
returns-in-Err-NoMemory-clause-safe g c told tells ring have before stand = inl (record {
  tells = tells_memory (said_in c.no_memory-in-Err-NoMemory.result) c.no_memory-in-Err-NoMemory.ensures;
  any_moment = same_safe g.C.Cipher.meaning.opens c.args.root.now before (g.D.Disk.meaning.view c.args.disk) stand;
  kept = same_kept g.C.Cipher.meaning.opens c.args.root.now (g.D.Disk.meaning.view c.args.disk);
})

pub returns-in-Err-Bad-clause-kept : goal.returns-in-Err-Bad-clause-kept
returns-in-Err-Bad-clause-kept g c told = inl (same_kept g.C.Cipher.meaning.opens c.args.root.now (g.D.Disk.meaning.view c.args.disk))

pub returns-in-Err-NoMemory-clause-kept : goal.returns-in-Err-NoMemory-clause-kept
returns-in-Err-NoMemory-clause-kept g c told = inl (same_kept g.C.Cipher.meaning.opens c.args.root.now (g.D.Disk.meaning.view c.args.disk))

pub returns-in-Err-clause-answers : goal.returns-in-Err-clause-answers
returns-in-Err-clause-answers g c told tells ring have =
    let now = faults_of g.D.Disk.meaning c.args.disk g.C.Cipher.meaning c.args.tools.now.items in
    runs_unsaid (RunSays (map string_bytes c.args.words.now) g.C.Cipher.meaning.opens c.args.root.now (g.D.Disk.meaning.view c.args.disk).files (input_of g.S.Source.meaning c.args.input.now c.args.input.now) ring) now now (omega arith) (said_in c.no_memory.result) c.no_memory.ensures

pub returns-in-Err-clause-safe : goal.returns-in-Err-clause-safe
returns-in-Err-clause-safe g c told tells ring have before stand = inl (record {
  tells = tells_memory (said_in c.no_memory.result) c.no_memory.ensures;
  any_moment = same_safe g.C.Cipher.meaning.opens c.args.root.now before (g.D.Disk.meaning.view c.args.disk) stand;
  kept = same_kept g.C.Cipher.meaning.opens c.args.root.now (g.D.Disk.meaning.view c.args.disk);
})

pub returns-in-Err-clause-kept : goal.returns-in-Err-clause-kept
returns-in-Err-clause-kept g c told = inl (same_kept g.C.Cipher.meaning.opens c.args.root.now (g.D.Disk.meaning.view c.args.disk))
