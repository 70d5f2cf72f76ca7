-- The edit of `insert`: one secret with its sealed bytes.
use Rattle.std.proofs.Common.{◌≡◌, inl, inr, ℕ, ◌+◌, ◌<◌, ◌≤◌, Bool, true, false, [], ◌∷◌, length, slice_index_or, Some, refl, ap, ◌∙◌, subst, arith}
use Rattle.std.specs.Prelude.{Ok}
use Rattle.std.specs.FinMap as map
use Rattle.std.proofs.lemmas.Bool.{cases_eq}
use Rattle.std.proofs.lemmas.List.{get_or-set_same, get_or-set_other}
use Rattle.gopass_base.specs.Text.{Text}
use Rattle.mount_table.specs.MountOf.{mount_of}
use Rattle.disk_model.specs.Files.{Files}
use Rattle.cipher_port.specs.Tool.{Content, Opens}
use Rattle.store_state.specs.declared.opening.Found.{Found}
use Rattle.store_state.specs.Opening.{IsFound}
use Rattle.store_state.specs.State.{Sealed, State, StandsFor, cell_of, cell_with}
use Rattle.store_core.specs.Edit.{IsWithin, OfSecret, edited, has_secret, one_more, resized}
use Rattle.store_core.specs.Insert.{with_cell}
use Rattle.store_core.specs.Inserting.{IsTested}
use Rattle.store_core.proofs.InsertFacts.{limit_is}
use Rattle.store_core.proofs.InsertLemmas.{few_more}
use Rattle.store_core.proofs.RoomLemmas.{HasRoom, room_by}

-- the edited state is the planned one
pub edited_one : (opens : Opens) (name sealed : Text) (content : Content) (state : State) → opens sealed ≡ Some content → edited opens (OfSecret name (Some sealed) ∷ []) state ≡ with_cell name (Sealed content) state
edited_one opens name sealed content state opened = λ i. record state { rows = map.insert state.rows name (cell_with (opened i) sealed); sizes = resized (has_secret state name) true (mount_of state.mounts name) state.sizes }

-- and passes no limit
pub one_within : (opens : Opens) (name sealed : Text) (root : Text) (files : Files) (state : State) → StandsFor opens root files state
    → HasRoom (has_secret state name) (map.len state.rows) (slice_index_or state.sizes (mount_of state.mounts name) 0) → IsWithin (edited opens (OfSecret name (Some sealed) ∷ []) state)
one_within opens name sealed root files state s room = record {
  few_rules = s.limits.few_rules;
  few_secrets = few_more state.rows name (cell_of opens sealed) room.secrets_few s.limits.few_secrets;
  few_files = each (has_secret state name) refl;
}
  where
    old : (k : ℕ) → k < length state.mounts → slice_index_or state.sizes k 0 ≤ 40000
    old k lt = (let (paths, tree, is) = s.sizes_are.each k lt in let few = tree.few in omega (arith, few, is))

    each : (was : Bool) → has_secret state name ≡ was → (k : ℕ) → k < length state.mounts → slice_index_or (resized was true (mount_of state.mounts name) state.sizes) k 0 ≤ 40000
    each true e k lt = old k lt
    each false e k lt = elim (cases_eq k (mount_of state.mounts name)) [
      | inl same ↦ (let here = get_or-set_same state.sizes k (slice_index_or state.sizes k 0 + 1) 0 (let many = s.sizes_are.as_many in omega (arith, lt, many)) in
          let less = room.files_few e in
          subst (λ m. slice_index_or (one_more m state.sizes) k 0 ≤ 40000) same (omega (arith, here, less, ap (λ m. slice_index_or state.sizes m 0) same)))
      | inr apart ↦ (let few = old k lt in omega (arith, few, get_or-set_other state.sizes (mount_of state.mounts name) k (slice_index_or state.sizes (mount_of state.mounts name) 0 + 1) 0 apart))
    ]

pub one_fits : (opens : Opens) (root : Text) (files : Files) (found : Found) (state : State) → ∥ IsFound root files found ∥₁ → StandsFor opens root files state → (name sealed body : Text) (force : Bool) {T : Type 0} (done : T)
    → IsTested found name body force (Ok done) → IsWithin (edited opens (OfSecret name (Some sealed) ∷ []) state)
one_fits opens root files found state is s name sealed body force done tested = one_within opens name sealed root files state s
    (room_by body (has_secret state name) (map.len state.rows) (slice_index_or state.sizes (mount_of state.mounts name) 0) (limit_is opens root files found state is s name body force (Ok done) tested ∙ tested.may.1))
