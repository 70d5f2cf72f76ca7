use Rattle.std.proofs.Common.{rules, Global, List, [], ◌∷◌, None, Ok, Err, refl, sym, ◌∙◌, ap, subst, arith}
use Rattle.std.specs.Prelude.{slice_index_or, length}
use Rattle.std.proofs.lemmas.Result.{err_from_is_err_and}
use Rattle.path_rules.specs.Governing.{governing_ids}
use Rattle.cipher_port.specs.Tool.{Ring, made_of}
use Rattle.store_core.specs.Applying.{IsMadeBy}
use Rattle.store_core.specs.Entries.{entries_in}
use Rattle.store_core.specs.Edit.{Differ, Entry, IsWithin, edited, paths_in}
use Rattle.store_core.specs.Performs.{KeepsElsewhere}
use Rattle.store_core.specs.Moment.{moment_of, no_tools, one_tool}
use Rattle.store_state.specs.Places.{secret_path}
use Rattle.store_state.specs.State.{Sealed}
use Rattle.store_core.specs.Insert.{plan_insert, with_cell}
use Rattle.store_core.specs.Inserting.{SealsBody, limit_by}
use Rattle.store_state.proofs.AgreeLemmas.{mounts_agree}
use Rattle.store_core.proofs.CommandLemmas.{edit_keeps, edit_performs, where_made}
use Rattle.store_core.proofs.PerformLemmas.{Still, rests_elsewhere, still_same}
use Rattle.store_core.proofs.InsertLemmas.{insert_no_memory_then, plan_sealed}
use Rattle.store_core.proofs.InsertFacts.{ids_are, way_is, limit_is, insert_unruled, insert_tested, insert_unsealed}
use Rattle.store_core.proofs.InsertEdit.{edited_one, one_fits}
use Rattle.store_core.specs.declared.refusal.Refusal.TheVariants.{NoMemory}
use Rattle.store_core.proofs.KeepsLemmas.{tool_keeps}
use Rattle.store_core.proofs.store.Store.insert.Goals as goal

pub returns-in_err-ids-clause-planned : goal.returns-in_err-ids-clause-planned
returns-in_err-ids-clause-planned g c told tells ring have start s =
    let self = c.args.self.now in
    let root = self.vault.root in
    let name = c.args.name.now in
    let files = (g.D.Disk.meaning.view self.vault.disk).files in
    let opens = g.C.Cipher.meaning.opens in
    let now = moment_of self (one_tool g.C.Cipher.meaning c.args.tool.now) in
    let p = err_from_is_err_and c.from_residual.result c.from_residual.ensures.1 in
    rw (p.1, p.2) (insert_unruled opens root ring name c.args.body.now c.args.force start now now s (still_same root now (self.vault.at_rest c.requires.free told))
    (governing_ids self.found.rules self.found.mounts name) (ids_are opens root files self.found start (self.agrees c.requires.free told) s name) c.in_err-ids.field-0.0 c.in_err-ids.ensures.none (omega arith))

pub returns-in_err-test-clause-planned : goal.returns-in_err-test-clause-planned
returns-in_err-test-clause-planned g c told tells ring have start s =
    let self = c.args.self.now in
    let root = self.vault.root in
    let name = c.args.name.now in
    let body = c.args.body.now in
    let files = (g.D.Disk.meaning.view self.vault.disk).files in
    let opens = g.C.Cipher.meaning.opens in
    let now = moment_of self (one_tool g.C.Cipher.meaning c.args.tool.now) in
    let is = self.agrees c.requires.free told in
    let ruled = ids_are opens root files self.found start is s name ∙ c.in_ok-ids.ensures.rule in
    let tested = c.in_err-test.ensures.tested in
    let p = err_from_is_err_and c.from_residual-in_err-test.result c.from_residual-in_err-test.ensures.1 in
    rw (p.1, p.2) (insert_tested opens root ring name body c.args.force start now now s (still_same root now (self.vault.at_rest c.requires.free told)) c.in_ok-ids.ids ruled
    tested.there (limit_by body tested.there (length self.found.seen.names.items) (slice_index_or self.found.counts.items tested.row 0))
    (way_is opens root files self.found start is s name body c.args.force _ tested) (limit_is opens root files self.found start is s name body c.args.force _ tested)
    c.in_err-test.field-0.0 tested.may (omega arith))

pub returns-in_err-sealed-clause-planned : goal.returns-in_err-sealed-clause-planned
returns-in_err-sealed-clause-planned g c told tells ring have start s =
    let self = c.args.self.now in
    let root = self.vault.root in
    let name = c.args.name.now in
    let body = c.args.body.now in
    let files = (g.D.Disk.meaning.view self.vault.disk).files in
    let opens = g.C.Cipher.meaning.opens in
    let old = moment_of self (one_tool g.C.Cipher.meaning c.args.tool.now) in
    let new = moment_of self (one_tool g.C.Cipher.meaning c.seal_body.new.tool) in
    let is = self.agrees c.requires.free told in
    let ruled = ids_are opens root files self.found start is s name ∙ c.in_ok-ids.ensures.rule in
    let tested = c.in_ok-test.ensures.tested in
    let still : Still root old new = record { at_rest = self.vault.at_rest c.requires.free told; rests = (still_same root old (self.vault.at_rest c.requires.free told)).rests; commits = refl; tools_later = c.seal_body.ensures.cause.later } in
    let fresh = way_is opens root files self.found start is s name body c.args.force _ tested ∙ tested.may.0 in
    let room = limit_is opens root files self.found start is s name body c.args.force _ tested ∙ tested.may.1 in
    let p = err_from_is_err_and c.from_residual-in_err-sealed.result c.from_residual-in_err-sealed.ensures.1 in
    rw (p.1, p.2) (insert_unsealed opens root ring name body c.args.force start old new s still c.in_ok-ids.ids ruled fresh room (omega (arith, c.seal_body.ensures.once))
    c.in_err-sealed.field-0.0 (subst (λ (r : Ring). SealsBody {A = Global} opens r c.in_ok-ids.ids name body (Err c.in_err-sealed.field-0.0)) have (c.in_err-sealed.ensures.seals tells))
    (λ other e. c.in_err-sealed.ensures.cause.failed (other, search rules)))

pub returns-in_err-edit-clause-planned : goal.returns-in_err-edit-clause-planned
returns-in_err-edit-clause-planned g c told tells ring have start s =
    let self = c.args.self.now in
    let root = self.vault.root in
    let name = c.args.name.now in
    let body = c.args.body.now in
    let files = (g.D.Disk.meaning.view self.vault.disk).files in
    let opens = g.C.Cipher.meaning.opens in
    let old = moment_of self (one_tool g.C.Cipher.meaning c.args.tool.now) in
    let mid = moment_of self (one_tool g.C.Cipher.meaning c.seal_body.new.tool) in
    let is = self.agrees c.requires.free told in
    let ids = c.in_ok-ids.ids in
    let ruled = ids_are opens root files self.found start is s name ∙ c.in_ok-ids.ensures.rule in
    let tested = c.in_ok-test.ensures.tested in
    let at_rest = self.vault.at_rest c.requires.free told in
    let still : Still root old mid = record { at_rest = at_rest; rests = (still_same root old at_rest).rests; commits = refl; tools_later = c.seal_body.ensures.cause.later } in
    let fresh = way_is opens root files self.found start is s name body c.args.force _ tested ∙ tested.may.0 in
    let room = limit_is opens root files self.found start is s name body c.args.force _ tested ∙ tested.may.1 in
    let p = err_from_is_err_and c.from_residual-in_err-edit.result c.from_residual-in_err-edit.ensures.1 in
    rw (p.1, p.2) (insert_no_memory_then opens root ring name body c.args.force start old mid s still ids ruled fresh room (omega (arith, c.seal_body.ensures.once)))

pub apply-requires-clause-differ : goal.apply-requires-clause-differ
apply-requires-clause-differ g c = subst (λ (es : List Entry). Differ es) (sym c.in_ok-edit.ensures) (tt, tt)

pub apply-requires-clause-few : goal.apply-requires-clause-few
apply-requires-clause-few g c = omega (arith, ap length c.in_ok-edit.ensures)

pub apply-requires-clause-fits : goal.apply-requires-clause-fits
apply-requires-clause-fits g c told opens start s =
    let self = c.args.self.now in
    subst (λ (es : List Entry). IsWithin (edited opens es start)) (sym c.in_ok-edit.ensures)
    (one_fits opens self.vault.root (g.D.Disk.meaning.view self.vault.disk).files self.found start (self.agrees c.requires.free told) s c.args.name.now c.in_ok-sealed.sealed.items c.args.body.now c.args.force _ c.in_ok-test.ensures.tested)

pub returns-in_err-sealed-clause-keeps : goal.returns-in_err-sealed-clause-keeps
returns-in_err-sealed-clause-keeps g c =
    let self = c.args.self.now in
    let p = err_from_is_err_and c.from_residual-in_err-sealed.result c.from_residual-in_err-sealed.ensures.1 in
    rw (p.1, p.2) (tool_keeps {T = Unit {0}} self self (one_tool g.C.Cipher.meaning c.args.tool.now) (one_tool g.C.Cipher.meaning c.seal_body.new.tool) (λ done. []) (Err c.in_err-sealed.field-0.0)
    (record { later = c.seal_body.ensures.cause.later; failed = λ (n, e). c.in_err-sealed.ensures.cause.failed (n, search rules); stays = λ other. c.in_err-sealed.ensures.cause.stays (λ (n, e). other (n, search rules)) })
    (λ e. c.in_err-sealed.ensures.no_disk (search rules)) refl (omega (arith, c.seal_body.ensures.once)) c.requires.free refl (λ ring have. c.seal_body.ensures.ring ∙ have))

pub returns-clause-planned : goal.returns-clause-planned
returns-clause-planned g c told tells ring have start s =
    let self = c.args.self.now in
    let root = self.vault.root in
    let name = c.args.name.now in
    let body = c.args.body.now in
    let files = (g.D.Disk.meaning.view self.vault.disk).files in
    let opens = g.C.Cipher.meaning.opens in
    let old = moment_of self (one_tool g.C.Cipher.meaning c.args.tool.now) in
    let mid = moment_of self (one_tool g.C.Cipher.meaning c.seal_body.new.tool) in
    let is = self.agrees c.requires.free told in
    let ids = c.in_ok-ids.ids in
    let ruled = ids_are opens root files self.found start is s name ∙ c.in_ok-ids.ensures.rule in
    let tested = c.in_ok-test.ensures.tested in
    let at_rest = self.vault.at_rest c.requires.free told in
    let still : Still root old mid = record { at_rest = at_rest; rests = (still_same root old at_rest).rests; commits = refl; tools_later = c.seal_body.ensures.cause.later } in
    let fresh = way_is opens root files self.found start is s name body c.args.force _ tested ∙ tested.may.0 in
    let room = limit_is opens root files self.found start is s name body c.args.force _ tested ∙ tested.may.1 in
    let sealed = c.in_ok-sealed.sealed.items in
    let seals = subst (λ (r : Ring). SealsBody {A = Global} opens r ids name body (Ok c.in_ok-sealed.sealed)) have (c.in_ok-sealed.ensures.seals tells) in
    let new = moment_of c.apply.new.self (one_tool g.C.Cipher.meaning c.seal_body.new.tool) in
    rw (c.refused_by.ensures) (edit_performs opens root start (with_cell name (Sealed (made_of ids body)) start) (plan_insert ring name body c.args.force start) old mid new self.found.mounts (entries_in c.in_ok-edit.edit) (secret_path start.mounts name ∷ []) 1 c.apply.result
    s still (plan_sealed ring name body c.args.force start ids ruled None fresh room seals.1)
    (ap (λ (es : List Entry). edited opens es start) c.in_ok-edit.ensures ∙ edited_one opens name sealed (made_of ids body) start seals.0)
    (λ i. paths_in (sym (mounts_agree opens root files self.found start is s) i) (c.in_ok-edit.ensures i))
    c.seal_body.ensures.cause.later c.apply.ensures.cause (omega arith) (omega (arith, c.seal_body.ensures.once)) (c.apply.ensures.goes told opens start s) (c.apply.ensures.elsewhere told))

pub returns-clause-keeps : goal.returns-clause-keeps
returns-clause-keeps g c = rw (c.refused_by.ensures) (edit_keeps 1 c.args.self.now c.apply.new.self (one_tool g.C.Cipher.meaning c.args.tool.now) (one_tool g.C.Cipher.meaning c.seal_body.new.tool)
    (c.in_ok-sealed.ensures.cause.stays (λ (n, e). cc)) (omega (arith, c.seal_body.ensures.once)) c.apply.ensures.root (λ r have. c.seal_body.ensures.ring ∙ have) c.apply.result c.apply.ensures.cause c.apply.ensures.free)

pub returns-in_err-ids-clause-elsewhere : goal.returns-in_err-ids-clause-elsewhere
returns-in_err-ids-clause-elsewhere g c told =
    let self = c.args.self.now in
    let now = moment_of self no_tools in
    rests_elsewhere self.vault.root (secret_path self.found.mounts c.args.name.now ∷ []) now now (still_same self.vault.root now (self.vault.at_rest c.requires.free told))

pub returns-in_err-test-clause-elsewhere : goal.returns-in_err-test-clause-elsewhere
returns-in_err-test-clause-elsewhere g c told =
    let self = c.args.self.now in
    let now = moment_of self no_tools in
    rests_elsewhere self.vault.root (secret_path self.found.mounts c.args.name.now ∷ []) now now (still_same self.vault.root now (self.vault.at_rest c.requires.free told))

pub returns-in_err-sealed-clause-elsewhere : goal.returns-in_err-sealed-clause-elsewhere
returns-in_err-sealed-clause-elsewhere g c told =
    let self = c.args.self.now in
    let now = moment_of self no_tools in
    rests_elsewhere self.vault.root (secret_path self.found.mounts c.args.name.now ∷ []) now now (still_same self.vault.root now (self.vault.at_rest c.requires.free told))

pub returns-in_err-edit-clause-elsewhere : goal.returns-in_err-edit-clause-elsewhere
returns-in_err-edit-clause-elsewhere g c told =
    let self = c.args.self.now in
    let now = moment_of self no_tools in
    rests_elsewhere self.vault.root (secret_path self.found.mounts c.args.name.now ∷ []) now now (still_same self.vault.root now (self.vault.at_rest c.requires.free told))

pub returns-in_err-edit-clause-keeps : goal.returns-in_err-edit-clause-keeps
returns-in_err-edit-clause-keeps g c =
    let self = c.args.self.now in
    let p = err_from_is_err_and c.from_residual-in_err-edit.result c.from_residual-in_err-edit.ensures.1 in
    rw (p.1, p.2) (tool_keeps {T = Unit {0}} self self (one_tool g.C.Cipher.meaning c.args.tool.now) (one_tool g.C.Cipher.meaning c.seal_body.new.tool) (λ done. []) (Err NoMemory)
    (record { later = c.seal_body.ensures.cause.later; failed = λ (n, e). cc; stays = λ other. c.in_ok-sealed.ensures.cause.stays (λ (n, e). cc) })
    (λ e. cc) refl (omega (arith, c.seal_body.ensures.once)) c.requires.free refl (λ ring have. c.seal_body.ensures.ring ∙ have))

pub returns-clause-elsewhere : goal.returns-clause-elsewhere
returns-clause-elsewhere g c told =
    let self = c.args.self.now in
    subst (λ (es : List Entry). KeepsElsewhere self.vault.root (paths_in self.found.mounts es) (moment_of self no_tools) (moment_of c.apply.new.self no_tools)) c.in_ok-edit.ensures (c.apply.ensures.elsewhere told)

pub returns-clause-kept : goal.returns-clause-kept
returns-clause-kept g c =
    where_made c.apply.result c.refused_by.result c.refused_by.ensures (λ made. (c.in_ok-sealed.sealed.items, subst (λ (es : List Entry). IsMadeBy es c.args.self.now.found c.apply.new.self.found) c.in_ok-edit.ensures made)) c.apply.ensures.kept
