-- `insert` keeps each secret made for the ids that govern its name.
use Rattle.std.proofs.Common.{◌≡◌, inl, inr, ℕ, zero, suc, Bool, true, false, not, ◌&&◌, cond, [], ◌∷◌, Option, Some, None, refl, sym, ◌∙◌, subst, arith}
use Rattle.std.specs.FinMap as map
use Rattle.gopass_base.specs.Text.{Text}
use Rattle.recipient_files.specs.Ids.{Ids}
use Rattle.cipher_port.specs.Tool.{Ring, made_of, first_unknown}
use Rattle.path_rules.specs.Governing.{governing_ids}
use Rattle.disk_model.proofs.FileLemmas.{cases_path}
use Rattle.store_state.specs.declared.fault.Limit.{Limit}
use Rattle.store_state.specs.State.{State, Cell, Sealed}
use Rattle.store_core.specs.Plans.{Refused, answers, answers_by_tool}
use Rattle.store_core.specs.Steps.{states_of}
use Rattle.store_core.specs.Events.{Events, is_refused}
use Rattle.store_core.specs.Insert.{with_cell, passed_by, insert_sealed, insert_within, insert_ruled, plan_insert}
use Rattle.store_core.specs.Edit.{has_secret}
use Rattle.store_core.specs.declared.refusal.Refusal.TheVariants.{Tool, Exists}
use Rattle.store_core.specs.Kept.{IsMadeFor, IsKept, AreAllKept}
use Rattle.store_state.proofs.SecretLemmas.{insert_here, insert_apart}

-- ---- no state, and one state

pub none_kept : AreAllKept []
none_kept state (i, lt, at) = absurd (omega (arith, lt))

pub one_kept : (state : State) → IsKept state → AreAllKept (state ∷ [])
one_kept state kept other (zero, lt, at) = subst (λ (s : State). IsKept s) at kept
one_kept state kept other (suc i, lt, at) = absurd (omega (arith, lt))

-- ---- a secret sealed for the ids that govern it

pub sealed_kept : (name body : Text) (ids : Ids) (state : State) → governing_ids state.rules state.mounts name ≡ Some ids → IsKept state → IsKept (with_cell name (Sealed (made_of ids body)) state)
sealed_kept name body ids state ruled kept = record {
  made = λ q cell at. elim (cases_path name q) [
    | inl same ↦ (
        let here : map.get (map.insert state.rows name (Sealed (made_of ids body))) name ≡ Some cell = subst (λ (t : Text). map.get (map.insert state.rows name (Sealed (made_of ids body))) t ≡ Some cell) (sym same) at in
        let is_cell : Some (Sealed (made_of ids body)) ≡ Some cell = sym (insert_here state.rows name (Sealed (made_of ids body))) ∙ here in
        let is : Sealed (made_of ids body) ≡ cell = cc in
        let made : IsMadeFor (governing_ids state.rules state.mounts name) (Sealed (made_of ids body)) = subst (λ (rule : Option Ids). IsMadeFor rule (Sealed (made_of ids body))) (sym ruled) refl in
        subst (λ (t : Text). IsMadeFor (governing_ids state.rules state.mounts t) cell) same (subst (λ (c : Cell). IsMadeFor (governing_ids state.rules state.mounts name) c) is made))
    | inr apart ↦ kept.made q cell (sym (insert_apart state.rows name q (Sealed (made_of ids body)) apart) ∙ at)
  ];
  unshadowed = kept.unshadowed;
}

-- ---- each way through `insert`

module _ (ring : Ring) (name body : Text) (force : Bool) (state : State) (events : Events) (kept : IsKept state) where
  module _ (ids : Ids) (ruled : governing_ids state.rules state.mounts name ≡ Some ids) where
    by_unknown : (unknown : Option ℕ) → AreAllKept (states_of (insert_sealed name body state ids unknown).steps)
    by_unknown (Some place) = none_kept
    by_unknown None = one_kept (with_cell name (Sealed (made_of ids body)) state) (sealed_kept name body ids state ruled kept)

    by_limit : (limit : Option Limit) → AreAllKept (states_of (insert_within ring name body state events ids limit).steps)
    by_limit (Some limit) = none_kept
    by_limit None = elim (is_refused name events) as (λ b. AreAllKept (states_of (cond b (answers_by_tool (Refused (Tool name))) (insert_sealed name body state ids (first_unknown ring ids))).steps)) [
      | true ↦ none_kept
      | false ↦ by_unknown (first_unknown ring ids)
    ]

  by_rule : (rule : Option Ids) → governing_ids state.rules state.mounts name ≡ rule → AreAllKept (states_of (insert_ruled ring name body force state events rule).steps)
  by_rule None ruled = none_kept
  by_rule (Some ids) ruled = elim (not force && has_secret state name) as (λ b. AreAllKept (states_of (cond b (answers (Refused (Exists name))) (insert_within ring name body state events ids (passed_by state name body))).steps)) [
    | true ↦ none_kept
    | false ↦ by_limit ids ruled (passed_by state name body)
  ]

  kept_by_plan : AreAllKept (states_of (plan_insert ring name body force state events).steps)
  kept_by_plan = by_rule (governing_ids state.rules state.mounts name) refl

pub plan_insert_kept : (ring : Ring) (name body : Text) (force : Bool) (state : State) (events : Events) → IsKept state → AreAllKept (states_of (plan_insert ring name body force state events).steps)
plan_insert_kept ring name body force state events kept = kept_by_plan ring name body force state events kept
