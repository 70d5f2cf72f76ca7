use Rattle.std.proofs.Common.{rules, Global, ℕ, ◌≡◌, false, true, refl, Some, None, Option, Err, Vec, sym, ◌∙◌, ap, subst, arith}
use Rattle.std.specs.Prelude.{⊤}
use Rattle.std.proofs.lemmas.Bool.{false≢true}
use Rattle.std.proofs.lemmas.Result.{err_from_is_err_and}
use Rattle.gopass_base.specs.Text.{Text}
use Rattle.cipher_port.specs.Tool.{Ring}
use Rattle.store_core.specs.Moment.{moment_of, one_tool}
use Rattle.store_core.specs.Performs.{Performs}
use Rattle.store_core.specs.Steps.{just}
use Rattle.store_state.specs.State.{StandsFor}
use Rattle.store_core.specs.Reads.{ReadsAt}
use Rattle.store_core.specs.Show.{plan_show, names_of}
use Rattle.store_core.specs.Unsealing.{Shows, why_missing}
use Rattle.store_core.specs.declared.refusal.Refusal.{Refusal}
use Rattle.pending_journal.proofs.CostLemmas.{costs_err, costs_is, costs_none, costs_zero}
use Rattle.store_state.proofs.AgreeLemmas.{keys_agree, among_keys, found_there}
use Rattle.store_state.proofs.SecretLemmas.{secret_file_plain}
use Rattle.store_core.proofs.PerformLemmas.{Still, still_same}
use Rattle.store_core.proofs.ShowLemmas.{show_missing, show_no_memory, show_fault, show_given, named, file_there, vault_file, not_sealed_shows, not_sealed_no_tool}
use Rattle.store_core.proofs.KeepsLemmas.{tool_keeps}
use Rattle.store_core.specs.Plans.{Refused}
use Rattle.store_core.proofs.store.Store.show.Goals as goal

pub returns-then-not-has_name-clause-planned : goal.returns-then-not-has_name-clause-planned
returns-then-not-has_name-clause-planned g c told tells ring have start s =
    let self = c.args.self.now in
    let files = (g.D.Disk.meaning.view self.vault.disk).files in
    let opens = g.C.Cipher.meaning.opens in
    let now = moment_of self (one_tool g.C.Cipher.meaning c.args.tool.now) in
    let keys = keys_agree opens self.vault.root files self.found start (self.agrees c.requires.free told) s in
    let among = among_keys start.rows c.names.result.now c.args.name.now c.has_name.result (keys ∙ sym c.names.ensures) c.has_name.ensures in
    let out : c.has_name.result ≡ false = search rules in
    let same : c.why_missing.result ≡ why_missing c.args.name.now (names_of start) = c.why_missing.ensures ∙ ap (why_missing c.args.name.now) (c.names-then-not-has_name.ensures ∙ sym keys) in
    subst (λ (r : Refusal). Performs (StandsFor opens self.vault.root) self.vault.root (plan_show ring c.args.name.now start) start now now (just (Refused r))) (sym same)
    (show_missing opens self.vault.root ring c.args.name.now start now now s (still_same self.vault.root now (self.vault.at_rest c.requires.free told)) (λ has. (let t : true ≡ false = sym (among.1 has) ∙ out in cc)) (omega arith))

pub returns-in_err-path-clause-planned : goal.returns-in_err-path-clause-planned
returns-in_err-path-clause-planned g c told tells ring have start s =
    let self = c.args.self.now in
    let now = moment_of self (one_tool g.C.Cipher.meaning c.args.tool.now) in
    let p = err_from_is_err_and c.from_residual.result c.from_residual.ensures.1 in
    rw (p.1, p.2) (show_no_memory g.C.Cipher.meaning.opens self.vault.root ring c.args.name.now start now now s (still_same self.vault.root now (self.vault.at_rest c.requires.free told)) (omega arith))

pub returns-in_err-sealed-clause-planned : goal.returns-in_err-sealed-clause-planned
returns-in_err-sealed-clause-planned g c told tells ring have start s =
    let self = c.args.self.now in
    let old = moment_of self (one_tool g.C.Cipher.meaning c.args.tool.now) in
    let new = moment_of c.read_at.new.self (one_tool g.C.Cipher.meaning c.args.tool.now) in
    let p = err_from_is_err_and c.from_residual-in_err-sealed.result c.from_residual-in_err-sealed.ensures.1 in
    rw (p.1, p.2) (show_fault g.C.Cipher.meaning.opens self.vault.root ring c.args.name.now start old new s
    (record { at_rest = self.vault.at_rest c.requires.free told; rests = c.read_at.ensures.only_reads.vault.rests told; commits = c.read_at.ensures.only_reads.vault.commits; tools_later = omega arith })
    c.in_err-sealed.field-0.0 (λ e. c.in_err-sealed.ensures.cause.failed (search rules)) (omega arith))

pub returns-in-Some-clause-planned : goal.returns-in-Some-clause-planned
returns-in-Some-clause-planned g c told tells ring have start s =
    let self = c.args.self.now in
    let name = c.args.name.now in
    let root = self.vault.root in
    let files = (g.D.Disk.meaning.view self.vault.disk).files in
    let opens = g.C.Cipher.meaning.opens in
    let old = moment_of self (one_tool g.C.Cipher.meaning c.args.tool.now) in
    let new = moment_of c.read_at.new.self (one_tool g.C.Cipher.meaning c.unseal.new.tool) in
    let still : Still self.vault.root old new = record { at_rest = self.vault.at_rest c.requires.free told; rests = c.read_at.ensures.only_reads.vault.rests told; commits = c.read_at.ensures.only_reads.vault.commits; tools_later = c.unseal.ensures.cause.later } in
    let agrees = self.agrees c.requires.free told in
    let among = among_keys start.rows c.names.result.now name c.has_name.result (keys_agree opens root files self.found start agrees s ∙ sym c.names.ensures) c.has_name.ensures in
    let there : c.has_name.result ≡ true = search rules in
    let good = named opens root ring name start old new s still (among.0 there) in
    let read : ReadsAt root files c.in_ok-path.path (Some c.in-Some.sealed) = subst (λ (x : Option (Vec ℕ Global)). ReadsAt root files c.in_ok-path.path x) c.in-Some.is (c.in_ok-sealed.ensures.read told) in
    let file = sym (vault_file opens root files self.found start agrees s name c.mounts.result.now c.in_ok-path.path c.mounts.ensures c.in_ok-path.ensures.table good c.in_ok-path.ensures.file) ∙ read.0 in
    let shows : Shows name (opens c.in-Some.sealed.items) (g.C.Cipher.meaning.ring c.args.tool.now) c.unseal.result = subst (λ (bytes : Text). Shows name (opens bytes) (g.C.Cipher.meaning.ring c.args.tool.now) c.unseal.result) c.deref.ensures.value (c.unseal.ensures.shows tells) in
    show_given opens root ring name start old new s still good c.in-Some.sealed.items file c.unseal.result (subst (λ (r : Ring). Shows name (opens c.in-Some.sealed.items) r c.unseal.result) have shows)
    (λ other is. c.unseal.ensures.cause.failed (other, is)) (omega (arith, c.unseal.ensures.once))

pub returns-clause-planned : goal.returns-clause-planned
returns-clause-planned g c told tells ring have start s =
    let self = c.args.self.now in
    let name = c.args.name.now in
    let root = self.vault.root in
    let files = (g.D.Disk.meaning.view self.vault.disk).files in
    let opens = g.C.Cipher.meaning.opens in
    let old = moment_of self (one_tool g.C.Cipher.meaning c.args.tool.now) in
    let new = moment_of c.read_at.new.self (one_tool g.C.Cipher.meaning c.args.tool.now) in
    let still : Still self.vault.root old new = record { at_rest = self.vault.at_rest c.requires.free told; rests = c.read_at.ensures.only_reads.vault.rests told; commits = c.read_at.ensures.only_reads.vault.commits; tools_later = omega arith } in
    let agrees = self.agrees c.requires.free told in
    let among = among_keys start.rows c.names.result.now name c.has_name.result (keys_agree opens root files self.found start agrees s ∙ sym c.names.ensures) c.has_name.ensures in
    let there : c.has_name.result ≡ true = search rules in
    let good = named opens root ring name start old new s still (among.0 there) in
    let (bytes, file) = file_there opens root ring name start old new s still good (among.0 there) in
    let read : ReadsAt {A = Global} root files c.in_ok-path.path None = subst (λ (x : Option (Vec ℕ Global)). ReadsAt root files c.in_ok-path.path x) c.in-None.is (c.in_ok-sealed.ensures.read told) in
    let long = read bytes (vault_file opens root files self.found start agrees s name c.mounts.result.now c.in_ok-path.path c.mounts.ensures c.in_ok-path.ensures.table good c.in_ok-path.ensures.file ∙ file) in
    show_given opens root ring name start old new s still good bytes file (Err c.not_sealed.result)
    (not_sealed_shows name ring c.not_sealed.result c.not_sealed.ensures (opens bytes) ((g.met.C.Cipher.limits bytes tells).long long))
    (λ other is. absurd (not_sealed_no_tool name c.not_sealed.result c.not_sealed.ensures other is)) (omega arith)

pub returns-in-Some-clause-keeps : goal.returns-in-Some-clause-keeps
returns-in-Some-clause-keeps g c = tool_keeps c.args.self.now c.read_at.new.self (one_tool g.C.Cipher.meaning c.args.tool.now) (one_tool g.C.Cipher.meaning c.unseal.new.tool) (λ (body : Vec ℕ Global). body.items) c.unseal.result
    (record { later = c.unseal.ensures.cause.later; failed = c.unseal.ensures.cause.failed; stays = c.unseal.ensures.cause.stays }) c.unseal.ensures.no_disk (c.in_ok-sealed.ensures.cause.stays (λ e. cc)) c.unseal.ensures.once (search rules) c.read_at.ensures.only_reads.vault.root (λ ring have. c.unseal.ensures.ring ∙ have)

pub returns-then-not-has_name-clause-costs : goal.returns-then-not-has_name-clause-costs
returns-then-not-has_name-clause-costs g c = costs_none 1 _ false≢true

pub returns-in_err-path-clause-costs : goal.returns-in_err-path-clause-costs
returns-in_err-path-clause-costs g c = costs_err c.from_residual.result c.from_residual.ensures.0 (omega arith) (costs_zero {P = ⊤} _)

pub returns-in_err-sealed-clause-costs : goal.returns-in_err-sealed-clause-costs
returns-in_err-sealed-clause-costs g c = costs_err c.from_residual-in_err-sealed.result c.from_residual-in_err-sealed.ensures.0 (omega arith) c.in_err-sealed.ensures.costs

pub returns-in-Some-clause-costs : goal.returns-in-Some-clause-costs
returns-in-Some-clause-costs g c =
    let self = c.args.self.now in
    costs_is refl (λ done. secret_file_plain self.vault.root self.found.mounts c.mounts.result.now c.args.name.now c.in_ok-path.path c.mounts.ensures self.rooted c.in_ok-path.ensures.table c.text.ensures.good c.in_ok-path.ensures.file) c.in_ok-sealed.ensures.costs

pub returns-clause-costs : goal.returns-clause-costs
returns-clause-costs g c = costs_is refl (λ e. absurd (false≢true e)) c.in_ok-sealed.ensures.costs

pub returns-in_err-sealed-clause-unasked : goal.returns-in_err-sealed-clause-unasked
returns-in_err-sealed-clause-unasked g c told out =
    let self = c.args.self.now in
    let disk = g.D.Disk.meaning in
    found_there self.vault.root (disk.view self.vault.disk).files self.found c.names.result.now c.args.name.now c.has_name.result (disk.calls c.read_at.new.self.vault.disk) (disk.calls self.vault.disk) (self.agrees c.requires.free told) c.names.ensures c.has_name.ensures (search rules) out

pub returns-in-Some-clause-unasked : goal.returns-in-Some-clause-unasked
returns-in-Some-clause-unasked g c told out =
    let self = c.args.self.now in
    let disk = g.D.Disk.meaning in
    found_there self.vault.root (disk.view self.vault.disk).files self.found c.names.result.now c.args.name.now c.has_name.result (disk.calls c.read_at.new.self.vault.disk) (disk.calls self.vault.disk) (self.agrees c.requires.free told) c.names.ensures c.has_name.ensures (search rules) out

pub returns-clause-unasked : goal.returns-clause-unasked
returns-clause-unasked g c told out =
    let self = c.args.self.now in
    let disk = g.D.Disk.meaning in
    found_there self.vault.root (disk.view self.vault.disk).files self.found c.names.result.now c.args.name.now c.has_name.result (disk.calls c.read_at.new.self.vault.disk) (disk.calls self.vault.disk) (self.agrees c.requires.free told) c.names.ensures c.has_name.ensures (search rules) out
