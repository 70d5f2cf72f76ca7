-- What the tests of `insert` say of the state, and what a store has once a secret is put.
use Rattle.std.proofs.Common.{◌≡◌, ◌+◌, ◌≤◌, Bool, false, not, ◌&&◌, length, Option, None, Some, Result, Err, Global, refl, sym, ◌∙◌, ap, subst, arith}
use Rattle.std.specs.Prelude.{slice_index_or}
use Rattle.std.specs.FinMap as map
use Rattle.gopass_base.specs.Text.{Text}
use Rattle.gopass_base.specs.Faults.{Rose}
use Rattle.mount_table.specs.MountOf.{mount_of}
use Rattle.disk_model.specs.Files.{Files}
use Rattle.path_rules.specs.Governing.{governing_ids}
use Rattle.recipient_files.specs.Ids.{Ids}
use Rattle.cipher_port.specs.Tool.{Opens, Ring}
use Rattle.store_state.specs.declared.fault.Limit.{Limit}
use Rattle.store_state.specs.declared.opening.Found.{Found}
use Rattle.store_core.specs.declared.refusal.Refusal.{Refusal}
use Rattle.store_core.specs.declared.refusal.Refusal.TheVariants.{NotFound, IsFolder, Exists, NoRule, Full, UnknownId, NoKey, NotSealed, Tool, Disk, NoMemory}
use Rattle.store_core.specs.Moment.{Moment}
use Rattle.store_state.specs.Opening.{IsFound}
use Rattle.store_state.specs.State.{State, StandsFor}
use Rattle.store_core.specs.Insert.{plan_insert, passed_by}
use Rattle.store_core.specs.Edit.{has_secret}
use Rattle.store_core.specs.Inserting.{IsUnruled, limit_by, MayPut, IsTested, SealsBody}
use Rattle.store_core.specs.Performs.{Performs}
use Rattle.store_core.specs.Plans.{Refused}
use Rattle.store_core.specs.Steps.{just}
use Rattle.store_state.proofs.KeyLemmas.{length-keys}
use Rattle.store_state.proofs.AgreeLemmas.{mounts_agree, keys_agree, rules_agree, sizes_agree, row_agrees, among_keys}
use Rattle.store_core.proofs.PerformLemmas.{Still}
use Rattle.store_core.proofs.InsertLemmas.{there_by_keys, insert_no_rule, insert_no_memory, insert_in_the_way, insert_full, insert_failed, insert_unknown, insert_no_memory_then}

-- ---- what was tested is so in the state

module _ (opens : Opens) (root : Text) (files : Files) (found : Found) (state : State) (is : ∥ IsFound root files found ∥₁) (stands : StandsFor opens root files state) (name : Text) where
  pub ids_are : governing_ids state.rules state.mounts name ≡ governing_ids found.rules found.mounts name
  ids_are =
      let rules = rules_agree opens root files found state is stands in
      let mounts = mounts_agree opens root files found state is stands in
      λ i. governing_ids (rules i) (mounts i) name

  module _ {T : Type 0} (body : Text) (force : Bool) (r : Result T Refusal) (tested : IsTested found name body force r) where
    pub there_is : has_secret state name ≡ tested.there
    there_is = there_by_keys state name tested.there (among_keys state.rows found.seen.names.items name tested.there (keys_agree opens root files found state is stands) tested.among)

    pub way_is : (not force && has_secret state name) ≡ (not force && tested.there)
    way_is = ap (λ b. not force && b) there_is

    row_is : tested.row ≡ mount_of found.mounts name
    row_is = row_agrees opens root files found state is stands name tested.row tested.mount

    size_is : slice_index_or state.sizes (mount_of state.mounts name) 0 ≡ slice_index_or found.counts.items tested.row 0
    size_is =
        let sizes = sizes_agree opens root files found state is stands in
        let mounts = mounts_agree opens root files found state is stands in
        (λ i. slice_index_or (sizes i) (mount_of (mounts i) name) 0) ∙ ap (λ k. slice_index_or found.counts.items k 0) (sym row_is)

    secrets_are : map.len state.rows ≡ length found.seen.names.items
    secrets_are = length-keys state.rows ∙ ap length (keys_agree opens root files found state is stands)

    pub limit_is : passed_by state name body ≡ limit_by body tested.there (length found.seen.names.items) (slice_index_or found.counts.items tested.row 0)
    limit_is = λ i. limit_by body (there_is i) (secrets_are i) (size_is i)

-- ---- the exits before the commit

module _ (opens : Opens) (root : Text) (ring : Ring) (name body : Text) (force : Bool) (state : State) (old new : Moment) (stands : StandsFor opens root old.view.files state) (still : Still root old new) where
  pub insert_unruled : (ids : Option Ids) → governing_ids state.rules state.mounts name ≡ ids → (r : Refusal) → IsUnruled name ids r → new.calls ≤ old.calls
      → Performs (StandsFor opens root) root (plan_insert ring name body force state) state old new (just (Refused r))
  insert_unruled ids is (NoRule other) (same, none) few = subst (λ n. Performs (StandsFor opens root) root (plan_insert ring name body force state) state old new (just (Refused (NoRule n)))) (sym same)
      (insert_no_rule opens root ring name body force state old new stands still (is ∙ none) few)
  insert_unruled ids is NoMemory none few = insert_no_memory opens root ring name body force state old new stands still (omega (arith, few))
  insert_unruled ids is NotFound none few = absurd none
  insert_unruled ids is IsFolder none few = absurd none
  insert_unruled ids is (Exists other) none few = absurd none
  insert_unruled ids is (Full limit) none few = absurd none
  insert_unruled ids is (UnknownId id) none few = absurd none
  insert_unruled ids is (NoKey other) none few = absurd none
  insert_unruled ids is (NotSealed other) none few = absurd none
  insert_unruled ids is (Tool other) none few = absurd none
  insert_unruled ids is Disk none few = absurd none

  module _ (ids : Ids) (ruled : governing_ids state.rules state.mounts name ≡ Some ids) where
    pub insert_tested : (there : Bool) (limit : Option Limit) → (not force && has_secret state name) ≡ (not force && there) → passed_by state name body ≡ limit → (r : Refusal) → MayPut name force there limit {T = Unit {0}} (Err r) → new.calls ≤ old.calls
        → Performs (StandsFor opens root) root (plan_insert ring name body force state) state old new (just (Refused r))
    insert_tested there limit way passed (Exists other) may few = subst (λ n. Performs (StandsFor opens root) root (plan_insert ring name body force state) state old new (just (Refused (Exists n)))) (sym may.0)
        (insert_in_the_way opens root ring name body force state old new stands still ids ruled (way ∙ may.1) few)
    insert_tested there limit way passed (Full kind) may few = insert_full opens root ring name body force state old new stands still ids ruled (way ∙ may.0) kind (passed ∙ may.1) few
    insert_tested there limit way passed (NoRule other) may few = absurd may
    insert_tested there limit way passed NoMemory may few = insert_no_memory opens root ring name body force state old new stands still (omega (arith, few))
    insert_tested there limit way passed NotFound may few = absurd may
    insert_tested there limit way passed IsFolder may few = absurd may
    insert_tested there limit way passed (UnknownId id) may few = absurd may
    insert_tested there limit way passed (NoKey other) may few = absurd may
    insert_tested there limit way passed (NotSealed other) may few = absurd may
    insert_tested there limit way passed (Tool other) may few = absurd may
    insert_tested there limit way passed Disk may few = absurd may

    module _ (fresh : (not force && has_secret state name) ≡ false) (room : passed_by state name body ≡ None) (few : new.calls ≤ old.calls + 1) where
      pub insert_unsealed : (r : Refusal) → SealsBody {A = Global} opens ring ids name body (Err r) → ((other : Text) → r ≡ Tool other → Rose old.faults.tools new.faults.tools)
          → Performs (StandsFor opens root) root (plan_insert ring name body force state) state old new (just (Refused r))
      insert_unsealed (UnknownId id) (place, first, is) rose = insert_unknown opens root ring name body force state old new stands still ids ruled fresh room few place id first is
      insert_unsealed (Tool other) same rose = subst (λ n. Performs (StandsFor opens root) root (plan_insert ring name body force state) state old new (just (Refused (Tool n)))) (sym same)
          (insert_failed opens root ring name body force state old new stands still ids ruled fresh room few (rose other refl))
      insert_unsealed NoMemory is rose = insert_no_memory_then opens root ring name body force state old new stands still ids ruled fresh room few
      insert_unsealed (NoRule other) is rose = absurd is
      insert_unsealed (Exists other) is rose = absurd is
      insert_unsealed (Full limit) is rose = absurd is
      insert_unsealed NotFound is rose = absurd is
      insert_unsealed IsFolder is rose = absurd is
      insert_unsealed (NoKey other) is rose = absurd is
      insert_unsealed (NotSealed other) is rose = absurd is
      insert_unsealed Disk is rose = absurd is
