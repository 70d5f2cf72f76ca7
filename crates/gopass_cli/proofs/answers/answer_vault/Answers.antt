use Rattle.std.proofs.Common.{inl, inr, refl, sym, subst, arith}
use Rattle.gopass_base.specs.Text.{Text}
use Rattle.disk_model.specs.Files.{Files}
use Rattle.store_state.specs.State.{StandsFor}
use Rattle.store_state.proofs.OpenLemmas.{never_refused}
use Rattle.store_state.proofs.StandsLemmas.{found_state, found_stands}
use Rattle.store_core.proofs.PerformLemmas.{stands_at_rest}
use Rattle.gopass_cli.specs.Opening.{SaysOfCommand}
use Rattle.request_body.specs.Bodies.{input_of}
use Rattle.gopass_cli.specs.Requests.{SaysOfRequest}
use Rattle.gopass_cli.specs.Safe.{IsSafe, KeptOrOpens}
use Rattle.gopass_cli.specs.Replies.{said_in}
use Rattle.gopass_cli.specs.Run.{SaidInRun, faults_of}
use Rattle.gopass_cli.proofs.RunLemmas.{runs_fault, runs_later, runs_weaker}
use Rattle.gopass_cli.proofs.SafeLemmas.{rest_stands, rested, rested_recovers, rests_kept, rests_safe, safe_after, tells_store}
use Rattle.gopass_cli.proofs.answers.answer_vault.Goals as goal

pub returns-in-Ready-clause-answers : goal.returns-in-Ready-clause-answers
returns-in-Ready-clause-answers g c first redone told tells ring have =
    let input = input_of g.S.Source.meaning c.args.input.now c.answer_open.new.input in
    let vault = c.args.vault in
    let store = c.in-Ready.store in
    let opens = g.C.Cipher.meaning.opens in
    let files = (g.D.Disk.meaning.view vault.disk).files in
    let found = c.in-Ready.ensures.opens told in
    let state = found_state opens vault.root files store.found found.table found in
    let stands = found_stands opens vault.root files store.found found.table found in
    let here = subst (λ (r : Text). StandsFor opens r (g.D.Disk.meaning.view store.vault.disk).files state) (sym c.in-Ready.ensures.only_reads.root) (subst (λ (f : Files). StandsFor opens vault.root f state) (sym (c.in-Ready.ensures.only_reads.rests told).files) stands) in
    let old = faults_of g.D.Disk.meaning vault.disk g.C.Cipher.meaning c.args.tools.now.items in
    let mid = faults_of g.D.Disk.meaning store.vault.disk g.C.Cipher.meaning c.args.tools.now.items in
    let new = faults_of g.D.Disk.meaning c.answer_open.result.disk g.C.Cipher.meaning c.answer_open.new.tools.items in
    let said = said_in c.answer_open.result.reply in
    let says = SaysOfRequest c.args.command input ring state in
    runs_weaker says (SaysOfCommand opens vault.root first input ring c.args.command) old new said
    (λ events h. inr (inr (record { after = files; redone = redone; found = store.found; finds = found; state = state; stands = stands; says = h })))
    (runs_later says old mid new said c.in-Ready.ensures.later (omega arith) (c.answer_open.ensures.answers state here told tells ring have))

pub returns-in-Refused-clause-answers : goal.returns-in-Refused-clause-answers
returns-in-Refused-clause-answers g c first redone told tells ring have =
    let input = input_of g.S.Source.meaning c.args.input.now c.args.input.now in
    let vault = c.args.vault in
    let old = faults_of g.D.Disk.meaning vault.disk g.C.Cipher.meaning c.args.tools.now.items in
    let new = faults_of g.D.Disk.meaning c.in-Refused.vault.disk g.C.Cipher.meaning c.args.tools.now.items in
    let files = (g.D.Disk.meaning.view vault.disk).files in
    let says = SaysOfCommand g.C.Cipher.meaning.opens vault.root first input ring c.args.command in
    subst (λ d. SaidInRun says old (faults_of g.D.Disk.meaning d g.C.Cipher.meaning c.args.tools.now.items) (said_in c.refuse_store.result)) (sym c.into_disk.ensures)
    (runs_fault g.C.Cipher.meaning.opens vault.root first files input (record { left = refl; taken = refl; ends = refl; faults = refl }) ring c.args.command old new c.in-Refused.fault (said_in c.refuse_store.result) (omega arith) redone (c.in-Refused.ensures.opens told) (λ e. c.in-Refused.ensures.cause.failed e) c.refuse_store.ensures)

pub returns-in-Ready-clause-safe : goal.returns-in-Ready-clause-safe
returns-in-Ready-clause-safe g c state stands told tells ring have before from =
    let vault = c.args.vault in
    let store = c.in-Ready.store in
    let root = vault.root in
    let opens = g.C.Cipher.meaning.opens in
    let input = input_of g.S.Source.meaning c.args.input.now c.answer_open.new.input in
    let v0 = g.D.Disk.meaning.view vault.disk in
    let v1 = g.D.Disk.meaning.view store.vault.disk in
    let v2 = g.D.Disk.meaning.view c.answer_open.result.disk in
    let f0 = faults_of g.D.Disk.meaning vault.disk g.C.Cipher.meaning c.args.tools.now.items in
    let f1 = faults_of g.D.Disk.meaning store.vault.disk g.C.Cipher.meaning c.args.tools.now.items in
    let f2 = faults_of g.D.Disk.meaning c.answer_open.result.disk g.C.Cipher.meaning c.answer_open.new.tools.items in
    let stand = rest_stands opens root before v0 state (vault.at_rest c.requires.free told) stands from in
    let rests = c.in-Ready.ensures.only_reads.rests told in
    let here = subst (λ (r : Text). StandsFor opens r v1.files state) (sym c.in-Ready.ensures.only_reads.root) (subst (λ (f : Files). StandsFor opens root f state) (sym rests.files) stands) in
    let safe = subst (λ (r : Text). IsSafe opens r ring c.args.command input before v1 v2 f1 f2 c.answer_open.result.reply.status) c.in-Ready.ensures.only_reads.root (c.answer_open.ensures.safe state here told tells ring have before from) in
    safe_after opens root ring c.args.command input before v0 v1 v2 f0 f1 f2 c.answer_open.result.reply.status c.in-Ready.ensures.later (omega arith) (rested_recovers opens root v0 v1 rests (vault.at_rest c.requires.free told)) (rested opens root v0 v1 rests (vault.at_rest c.requires.free told))
    (rests_kept opens root v0 v1 rests) (rests_safe opens root before v0 v1 rests stand) safe

pub returns-in-Refused-clause-safe : goal.returns-in-Refused-clause-safe
returns-in-Refused-clause-safe g c state stands told tells ring have before from =
    let vault = c.args.vault in
    let opens = g.C.Cipher.meaning.opens in
    let input = input_of g.S.Source.meaning c.args.input.now c.args.input.now in
    let v0 = g.D.Disk.meaning.view vault.disk in
    let f0 = faults_of g.D.Disk.meaning vault.disk g.C.Cipher.meaning c.args.tools.now.items in
    let stand = rest_stands opens vault.root before v0 state (vault.at_rest c.requires.free told) stands from in
    subst (λ d. IsSafe opens vault.root ring c.args.command input before v0 (g.D.Disk.meaning.view d) f0 (faults_of g.D.Disk.meaning d g.C.Cipher.meaning c.args.tools.now.items) c.refuse_store.result.status) (sym c.into_disk.ensures)
    (inl (record {
      tells = tells_store c.in-Refused.fault (said_in c.refuse_store.result) (never_refused opens vault.root v0.files state stands c.in-Refused.fault (c.in-Refused.ensures.opens told)) c.refuse_store.ensures;
      any_moment = rests_safe opens vault.root before v0 (g.D.Disk.meaning.view c.in-Refused.vault.disk) (c.in-Refused.ensures.only_reads.rests told) stand;
      kept = rests_kept opens vault.root v0 (g.D.Disk.meaning.view c.in-Refused.vault.disk) (c.in-Refused.ensures.only_reads.rests told);
    }))

pub returns-in-Ready-clause-kept : goal.returns-in-Ready-clause-kept
returns-in-Ready-clause-kept g c told =
    let v0 = g.D.Disk.meaning.view c.args.vault.disk in
    inr (v0.files, stands_at_rest c.args.vault.root v0.files (c.args.vault.at_rest c.requires.free told).none, c.in-Ready.store.found, c.in-Ready.ensures.opens told)

pub returns-in-Refused-clause-kept : goal.returns-in-Refused-clause-kept
returns-in-Refused-clause-kept g c told =
    let vault = c.args.vault in
    let v0 = g.D.Disk.meaning.view vault.disk in
    subst (λ d. KeptOrOpens vault.root v0 (g.D.Disk.meaning.view d)) (sym c.into_disk.ensures)
    (inl (rests_kept g.C.Cipher.meaning.opens vault.root v0 (g.D.Disk.meaning.view c.in-Refused.vault.disk) (c.in-Refused.ensures.only_reads.rests told)))
