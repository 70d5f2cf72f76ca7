use Rattle.std.proofs.Common.{inl, refl, sym, subst, arith}
use Rattle.gopass_base.specs.Text.{Text}
use Rattle.disk_model.specs.Files.{Files}
use Rattle.pending_journal.specs.Redo.{RecoversTo}
use Rattle.pending_journal.proofs.PlanLemmas.{one_meaning}
use Rattle.store_state.specs.State.{StandsFor}
use Rattle.request_body.specs.Bodies.{input_of}
use Rattle.gopass_cli.specs.Safe.{IsSafe, KeptOrOpens}
use Rattle.gopass_cli.specs.Opening.{SaysOfCommand}
use Rattle.gopass_cli.specs.Replies.{said_in}
use Rattle.gopass_cli.specs.Run.{SaidInRun, faults_of}
use Rattle.gopass_cli.proofs.RunLemmas.{runs_later, runs_vault}
use Rattle.gopass_cli.proofs.SafeLemmas.{opened_safe, opens_then, safe_after, tells_vault}
use Rattle.gopass_cli.proofs.answers.answer_command.Goals as goal

pub returns-in-Ready-clause-answers : goal.returns-in-Ready-clause-answers
returns-in-Ready-clause-answers g c told tells ring have =
    let input = input_of g.S.Source.meaning c.args.input.now c.answer_vault.new.input in
    let root = c.args.root.now in
    let vault = c.in-Ready.vault in
    let opens = g.C.Cipher.meaning.opens in
    let files = (g.D.Disk.meaning.view c.args.disk).files in
    let fresh = c.in-Ready.ensures.ready.0 in
    let redone = subst (λ (r : Text). RecoversTo r files (g.D.Disk.meaning.view vault.disk).files) (sym fresh.root_is) (c.in-Ready.ensures.ready.1 told).0 in
    let old = faults_of g.D.Disk.meaning c.args.disk g.C.Cipher.meaning c.args.tools.now.items in
    let mid = faults_of g.D.Disk.meaning vault.disk g.C.Cipher.meaning c.args.tools.now.items in
    let new = faults_of g.D.Disk.meaning c.answer_vault.result.disk g.C.Cipher.meaning c.answer_vault.new.tools.items in
    let said = said_in c.answer_vault.result.reply in
    let here = c.answer_vault.ensures.answers files redone told tells ring have in
    let by_root = subst (λ (r : Text). SaidInRun (SaysOfCommand opens r files input ring c.args.command) mid new said) fresh.root_is here in
    runs_later (SaysOfCommand opens root files input ring c.args.command) old mid new said c.in-Ready.ensures.later (omega arith) by_root

pub returns-in-Refused-clause-answers : goal.returns-in-Refused-clause-answers
returns-in-Refused-clause-answers g c told tells ring have =
    let old = faults_of g.D.Disk.meaning c.args.disk g.C.Cipher.meaning c.args.tools.now.items in
    let new = faults_of g.D.Disk.meaning c.in-Refused.disk g.C.Cipher.meaning c.args.tools.now.items in
    runs_vault g.C.Cipher.meaning.opens c.args.root.now (g.D.Disk.meaning.view c.args.disk).files (input_of g.S.Source.meaning c.args.input.now c.args.input.now) (record { left = refl; taken = refl; ends = refl; faults = refl }) ring c.args.command old new c.in-Refused.fault (said_in c.refuse_vault.result) (omega arith)
    (c.in-Refused.ensures.refused told) (λ e. c.in-Refused.ensures.cause.failed e) c.refuse_vault.ensures

pub returns-in-Ready-clause-safe : goal.returns-in-Ready-clause-safe
returns-in-Ready-clause-safe g c told tells ring have before stand =
    let root = c.args.root.now in
    let vault = c.in-Ready.vault in
    let opens = g.C.Cipher.meaning.opens in
    let input = input_of g.S.Source.meaning c.args.input.now c.answer_vault.new.input in
    let v0 = g.D.Disk.meaning.view c.args.disk in
    let v1 = g.D.Disk.meaning.view vault.disk in
    let v2 = g.D.Disk.meaning.view c.answer_vault.result.disk in
    let f0 = faults_of g.D.Disk.meaning c.args.disk g.C.Cipher.meaning c.args.tools.now.items in
    let f1 = faults_of g.D.Disk.meaning vault.disk g.C.Cipher.meaning c.args.tools.now.items in
    let f2 = faults_of g.D.Disk.meaning c.answer_vault.result.disk g.C.Cipher.meaning c.answer_vault.new.tools.items in
    let fresh = c.in-Ready.ensures.ready.0 in
    let first = opened_safe opens root before v0 v1 (c.files_are_an_image.ensures told) stand (c.in-Ready.ensures.any_moment told) in
    let was = stand v0.files (c.files_are_an_image.ensures told).now in
    let same = one_meaning root v0.files was.2.0 v1.files was.2.1 (c.in-Ready.ensures.ready.1 told).0 in
    let here = subst (λ (r : Text). StandsFor opens r v1.files was.0) (sym fresh.root_is) (subst (λ (f : Files). StandsFor opens root f was.0) same was.2.2) in
    let safe = c.answer_vault.ensures.safe was.0 here told tells ring have before was.1 in
    safe_after opens root ring c.args.command input before v0 v1 v2 f0 f1 f2 c.answer_vault.result.reply.status c.in-Ready.ensures.later (omega arith) (c.in-Ready.ensures.ready.1 told).0 (c.in-Ready.ensures.ready.1 told).1
    (c.in-Ready.ensures.any_moment told) first
    (subst (λ (r : Text). IsSafe opens r ring c.args.command input before v1 v2 f1 f2 c.answer_vault.result.reply.status) fresh.root_is safe)

pub returns-in-Refused-clause-safe : goal.returns-in-Refused-clause-safe
returns-in-Refused-clause-safe g c told tells ring have before stand =
    let v0 = g.D.Disk.meaning.view c.args.disk in
    let was = stand v0.files (c.files_are_an_image.ensures told).now in
    inl (record {
      tells = tells_vault c.args.root.now v0.files was.2.0 c.in-Refused.fault (said_in c.refuse_vault.result) was.2.1 (c.in-Refused.ensures.refused told) c.refuse_vault.ensures;
      any_moment = opened_safe g.C.Cipher.meaning.opens c.args.root.now before v0 (g.D.Disk.meaning.view c.in-Refused.disk) (c.files_are_an_image.ensures told) stand (c.in-Refused.ensures.any_moment told);
      kept = c.in-Refused.ensures.any_moment told;
    })

pub returns-in-Ready-clause-kept : goal.returns-in-Ready-clause-kept
returns-in-Ready-clause-kept g c told =
    let root = c.args.root.now in
    let v0 = g.D.Disk.meaning.view c.args.disk in
    let v1 = g.D.Disk.meaning.view c.in-Ready.vault.disk in
    let v2 = g.D.Disk.meaning.view c.answer_vault.result.disk in
    opens_then g.C.Cipher.meaning.opens root v0 v1 v2 (c.in-Ready.ensures.ready.1 told).0 (c.in-Ready.ensures.ready.1 told).1 (c.in-Ready.ensures.any_moment told)
    (subst (λ (r : Text). KeptOrOpens r v1 v2) c.in-Ready.ensures.ready.0.root_is (c.answer_vault.ensures.kept told))

pub returns-in-Refused-clause-kept : goal.returns-in-Refused-clause-kept
returns-in-Refused-clause-kept g c told = inl (c.in-Refused.ensures.any_moment told)
