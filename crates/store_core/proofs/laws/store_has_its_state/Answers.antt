use Rattle.std.proofs.Common.{ℕ, List, sym, ap}
use Rattle.std.specs.Prelude.{slice_index_or}
use Rattle.path_rules.specs.Governing.{governing_ids}
use Rattle.store_state.proofs.AgreeLemmas.{agrees}
use Rattle.store_core.proofs.laws.store_has_its_state.Goals as goal

pub returns-clause-names : goal.returns-clause-names
returns-clause-names g c told free opens state s =
    let store = c.args.store.now in
    let has = agrees opens store.vault.root (g.D.Disk.meaning.view store.vault.disk).files store.found state (store.agrees free told) s in
    sym has.names

pub returns-clause-mounts : goal.returns-clause-mounts
returns-clause-mounts g c told free opens state s =
    let store = c.args.store.now in
    let has = agrees opens store.vault.root (g.D.Disk.meaning.view store.vault.disk).files store.found state (store.agrees free told) s in
    sym has.mounts

pub returns-clause-rules : goal.returns-clause-rules
returns-clause-rules g c told free opens state s =
    let store = c.args.store.now in
    let has = agrees opens store.vault.root (g.D.Disk.meaning.view store.vault.disk).files store.found state (store.agrees free told) s in
    sym has.rules

pub returns-clause-governing : goal.returns-clause-governing
returns-clause-governing g c told free opens state s name =
    let store = c.args.store.now in
    let has = agrees opens store.vault.root (g.D.Disk.meaning.view store.vault.disk).files store.found state (store.agrees free told) s in
    λ i. governing_ids (sym has.rules i) (sym has.mounts i) name

pub returns-clause-templates : goal.returns-clause-templates
returns-clause-templates g c told free opens state s =
    let store = c.args.store.now in
    let has = agrees opens store.vault.root (g.D.Disk.meaning.view store.vault.disk).files store.found state (store.agrees free told) s in
    sym has.templates

pub returns-clause-strange : goal.returns-clause-strange
returns-clause-strange g c told free opens state s =
    let store = c.args.store.now in
    let has = agrees opens store.vault.root (g.D.Disk.meaning.view store.vault.disk).files store.found state (store.agrees free told) s in
    sym has.strange

pub returns-clause-shadowed : goal.returns-clause-shadowed
returns-clause-shadowed g c told free opens state s =
    let store = c.args.store.now in
    let has = agrees opens store.vault.root (g.D.Disk.meaning.view store.vault.disk).files store.found state (store.agrees free told) s in
    sym has.shadowed

pub returns-clause-files_in : goal.returns-clause-files_in
returns-clause-files_in g c told free opens state s row =
    let store = c.args.store.now in
    let has = agrees opens store.vault.root (g.D.Disk.meaning.view store.vault.disk).files store.found state (store.agrees free told) s in
    ap (λ (sizes : List ℕ). slice_index_or sizes row 0) (sym has.sizes)
