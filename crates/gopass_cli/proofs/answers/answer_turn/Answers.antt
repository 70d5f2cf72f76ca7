use Rattle.std.proofs.Common.{◌≡◌, ◌∙◌, ap, sym, subst}
use Rattle.std.specs.Prelude.{◌≢◌}
use Rattle.store_core.specs.Plans.{Outcome, Refused}
use Rattle.store_core.specs.declared.refusal.Refusal.TheVariants.{Disk, NoMemory}
use Rattle.gopass_cli.proofs.CauseLemmas.{tells_causes, tells_no_input}
use Rattle.gopass_base.specs.Text.{Text}
use Rattle.pending_journal.specs.Redo.{IsAtRest}
use Rattle.store_core.specs.Events.{Events}
use Rattle.store_core.specs.Moment.{moment_of, all_tools}
use Rattle.gopass_cli.specs.Actions.{subject_of}
use Rattle.gopass_cli.specs.Causes.{TellsCauses}
use Rattle.gopass_cli.specs.declared.status.Status.TheVariants.{InputFailed}
use Rattle.gopass_cli.specs.Statuses.{code}
use Rattle.gopass_cli.specs.Said.{Said, said_of}
use Rattle.gopass_cli.specs.Plan.{plan_of}
use Rattle.request_body.specs.Given.{bytes_of}
use Rattle.gopass_cli.specs.Safe.{Went}
use Rattle.gopass_cli.specs.Replies.{said_in}
use Rattle.gopass_cli.specs.Run.{SaidInRun, faults_of}
use Rattle.gopass_cli.proofs.RunLemmas.{runs_performs}
use Rattle.gopass_cli.proofs.SafeLemmas.{went_performs}
use Rattle.gopass_cli.proofs.answers.answer_turn.Goals as goal

pub returns-clause-answers : goal.returns-clause-answers
returns-clause-answers g c state stands told tells ring have =
    let store = c.args.store in
    let turned = c.turn-reply.ensures.turned in
    let says = λ (events : Events) (said : Said). said ≡ said_of (subject_of c.args.command) (plan_of ring c.args.command (bytes_of c.args.body) state events).outcome in
    let old = moment_of store (all_tools g.C.Cipher.meaning c.args.tools.now.items) in
    let new = moment_of c.turn-reply.new.store (all_tools g.C.Cipher.meaning c.turn-reply.new.tools.items) in
    let disk = c.into_disk.ensures ∙ ap (λ v. v.disk) c.into_vault.ensures in
    subst (λ d. SaidInRun says (faults_of g.D.Disk.meaning store.vault.disk g.C.Cipher.meaning c.args.tools.now.items) (faults_of g.D.Disk.meaning d g.C.Cipher.meaning c.turn-reply.new.tools.items) (said_in c.turn-reply.result)) (sym disk)
    (runs_performs g.C.Cipher.meaning.opens store.vault.root (subject_of c.args.command) (plan_of ring c.args.command (bytes_of c.args.body) state) state old new turned.outcome (said_in c.turn-reply.result) turned.says (turned.planned told tells ring have state stands))

pub returns-clause-went : goal.returns-clause-went
returns-clause-went g c state stands told tells ring have before from input given =
    let store = c.args.store in
    let turned = c.turn-reply.ensures.turned in
    let opens = g.C.Cipher.meaning.opens in
    let status = λ (o : Outcome) (e : turned.outcome ≡ o). ap (λ (s : Said). s.status) (turned.says ∙ ap (said_of (subject_of c.args.command)) e) in
    let old = moment_of store (all_tools g.C.Cipher.meaning c.args.tools.now.items) in
    let new = moment_of c.turn-reply.new.store (all_tools g.C.Cipher.meaning c.turn-reply.new.tools.items) in
    let disk = c.into_disk.ensures ∙ ap (λ v. v.disk) c.into_vault.ensures in
    subst (λ d. Went opens store.vault.root ring c.args.command input before (g.D.Disk.meaning.view store.vault.disk) (g.D.Disk.meaning.view d) (faults_of g.D.Disk.meaning store.vault.disk g.C.Cipher.meaning c.args.tools.now.items) (faults_of g.D.Disk.meaning d g.C.Cipher.meaning c.turn-reply.new.tools.items) c.turn-reply.result.status) (sym disk)
    (went_performs opens store.vault.root ring c.args.command input (bytes_of c.args.body) before state old new turned.outcome (said_in c.turn-reply.result) turned.says from (store.vault.at_rest c.requires.free told) stands given
    (λ a b. subst (λ (r : Text). IsAtRest r (g.D.Disk.meaning.view c.turn-reply.new.store.vault.disk)) turned.keeps.root (c.turn-reply.new.store.vault.at_rest (turned.keeps.free (λ e. a (status (Refused Disk) e)) (λ e. b (status (Refused NoMemory) e))) told)) (turned.planned told tells ring have state stands))

pub returns-clause-causes : goal.returns-clause-causes
returns-clause-causes g c =
    let store = c.args.store in
    let turned = c.turn-reply.ensures.turned in
    let old = faults_of g.D.Disk.meaning store.vault.disk g.C.Cipher.meaning c.args.tools.now.items in
    let new = faults_of g.D.Disk.meaning c.turn-reply.new.store.vault.disk g.C.Cipher.meaning c.turn-reply.new.tools.items in
    let disk = c.into_disk.ensures ∙ ap (λ v. v.disk) c.into_vault.ensures in
    subst (λ d. TellsCauses old (faults_of g.D.Disk.meaning d g.C.Cipher.meaning c.turn-reply.new.tools.items) c.turn-reply.result.status) (sym disk)
    (subst (λ (s : Said). TellsCauses old new s.status) (sym turned.says) (tells_causes (subject_of c.args.command) old new turned.outcome turned.keeps.causes))

pub returns-clause-no_input : goal.returns-clause-no_input
returns-clause-no_input g c =
    let turned = c.turn-reply.ensures.turned in
    subst (λ (s : Said). s.status ≢ code InputFailed) (sym turned.says) (tells_no_input (subject_of c.args.command) turned.outcome)
