use Rattle.std.proofs.Common.{◌≡◌, inl, inr, ap, sym, ◌∙◌, subst, arith}
use Rattle.store_core.specs.Events.{Events}
use Rattle.gopass_cli.specs.Actions.{subject_of}
use Rattle.gopass_cli.specs.Said.{Said, said_of}
use Rattle.request_body.specs.Bodies.{input_of}
use Rattle.gopass_cli.specs.Plan.{plan_of}
use Rattle.gopass_cli.specs.Replies.{said_in}
use Rattle.request_body.specs.Given.{bytes_of}
use Rattle.gopass_cli.specs.Requests.{SaysOfRequest}
use Rattle.gopass_cli.specs.Run.{SaidInRun, faults_of}
use Rattle.gopass_cli.specs.Safe.{IsSafe}
use Rattle.gopass_cli.proofs.RunLemmas.{runs_weaker, runs_no_body}
use Rattle.gopass_cli.proofs.SafeLemmas.{same_kept, same_safe, rest_stands, tells_body}
use Rattle.gopass_cli.proofs.answers.answer_open.Goals as goal

pub returns-in-Ok-clause-answers : goal.returns-in-Ok-clause-answers
returns-in-Ok-clause-answers g c state stands told tells ring have =
    let input = input_of g.S.Source.meaning c.args.input.now c.take_body.new.input in
    let body = bytes_of c.in-Ok.body in
    let old = faults_of g.D.Disk.meaning c.args.store.vault.disk g.C.Cipher.meaning c.args.tools.now.items in
    let new = faults_of g.D.Disk.meaning c.answer_turn.result.disk g.C.Cipher.meaning c.answer_turn.new.tools.items in
    runs_weaker (λ (events : Events) (said : Said). said ≡ said_of (subject_of c.args.command) (plan_of ring c.args.command body state events).outcome) (SaysOfRequest c.args.command input ring state) old new (said_in c.answer_turn.result.reply)
    (λ events h. inr (body, c.in-Ok.ensures.given, h)) (c.answer_turn.ensures.answers state stands told tells ring have)

pub returns-in-Ok-clause-safe : goal.returns-in-Ok-clause-safe
returns-in-Ok-clause-safe g c state stands told tells ring have before from =
    inr (c.answer_turn.ensures.went state stands told tells ring have before from (input_of g.S.Source.meaning c.args.input.now c.take_body.new.input) c.in-Ok.ensures.given)

pub returns-in-Err-clause-answers : goal.returns-in-Err-clause-answers
returns-in-Err-clause-answers g c state stands told tells ring have =
    let input = input_of g.S.Source.meaning c.args.input.now c.take_body.new.input in
    let old = faults_of g.D.Disk.meaning c.args.store.vault.disk g.C.Cipher.meaning c.args.tools.now.items in
    let disk = c.into_disk.ensures ∙ ap (λ v. v.disk) c.into_vault.ensures in
    subst (λ d. SaidInRun (SaysOfRequest c.args.command input ring state) old (faults_of g.D.Disk.meaning d g.C.Cipher.meaning c.args.tools.now.items) (said_in c.refuse_body.result)) (sym disk)
    (runs_no_body c.args.command input ring state old old c.in-Err.fault (said_in c.refuse_body.result) (omega arith) c.in-Err.ensures.refused c.refuse_body.ensures)

pub returns-in-Err-clause-safe : goal.returns-in-Err-clause-safe
returns-in-Err-clause-safe g c state stands told tells ring have before from =
    let store = c.args.store in
    let opens = g.C.Cipher.meaning.opens in
    let input = input_of g.S.Source.meaning c.args.input.now c.take_body.new.input in
    let view = g.D.Disk.meaning.view store.vault.disk in
    let old = faults_of g.D.Disk.meaning store.vault.disk g.C.Cipher.meaning c.args.tools.now.items in
    let disk = c.into_disk.ensures ∙ ap (λ v. v.disk) c.into_vault.ensures in
    subst (λ d. IsSafe opens store.vault.root ring c.args.command input before view (g.D.Disk.meaning.view d) old (faults_of g.D.Disk.meaning d g.C.Cipher.meaning c.args.tools.now.items) c.refuse_body.result.status) (sym disk)
    (inl (record {
      tells = tells_body c.in-Err.fault (said_in c.refuse_body.result) c.refuse_body.ensures;
      any_moment = same_safe opens store.vault.root before view (rest_stands opens store.vault.root before view state (store.vault.at_rest c.requires.free told) stands from);
      kept = same_kept opens store.vault.root view;
    }))
