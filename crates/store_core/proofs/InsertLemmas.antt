-- What `insert` does to the files, and the ways through it.
use Rattle.std.proofs.Common.{◌≡◌, ℕ, ◌+◌, ◌<◌, ◌≤◌, Bool, true, false, not, ◌&&◌, cond, [], slice_index_or, Option, Some, None, refl, ap, sym, ◌∙◌, arith}
use Rattle.std.specs.Prelude.{◌↔◌, Contains, IsTrue, is_some}
use Rattle.std.specs.FinMap as map
use Rattle.std.proofs.lemmas.Bool.{false≢true}
use Rattle.std.proofs.lemmas.Cmp.{nat_list_cmp_total}
use Rattle.std.proofs.lemmas.Slice.Eq.{bytes_eq-Decides}
use Rattle.gopass_base.specs.Text.{Text}
use Rattle.gopass_base.specs.Order.{TextMap}
use Rattle.gopass_base.specs.Faults.{Rose}
use Rattle.recipient_files.specs.Ids.{Ids}
use Rattle.cipher_port.specs.Tool.{Opens, Ring, first_unknown}
use Rattle.path_rules.specs.Governing.{governing_ids}
use Rattle.store_state.specs.declared.fault.Limit.{Limit}
use Rattle.store_core.specs.declared.refusal.Refusal.TheVariants.{Exists, NoRule, Full, UnknownId, Tool, NoMemory}
use Rattle.store_state.specs.State.{State, StandsFor}
use Rattle.store_core.specs.Plans.{Refused, Plan, answers, answers_by_tool}
use Rattle.store_core.specs.Steps.{just}
use Rattle.store_core.specs.Events.{Events, calm, refusing, Memory}
use Rattle.store_core.specs.Moment.{Moment}
use Rattle.store_core.specs.Performs.{Performs}
use Rattle.store_core.specs.Insert.{passed_by, insert_sealed, insert_within, insert_ruled, plan_insert}
use Rattle.store_core.specs.Edit.{has_secret}
use Rattle.store_state.proofs.KeyLemmas.{row_missing, row_there}
use Rattle.store_core.proofs.PerformLemmas.{Still, calm_tied, refusing_tied, quiet, quiet_stop}

-- ---- a secret more

pub few_more : {X : Type 0} (rows : TextMap X) (name : Text) (x : X) → (is_some (map.get rows name) ≡ false → map.len rows < 8192) → map.len rows ≤ 8192 → map.len (map.insert rows name x) ≤ 8192
few_more rows name x room few = by (is_some (map.get rows name)) refl (map.len-insert nat_list_cmp_total rows name x)
  where
    by : (there : Bool) → is_some (map.get rows name) ≡ there → map.len (map.insert rows name x) ≡ cond there (map.len rows) (map.len rows + 1) → map.len (map.insert rows name x) ≤ 8192
    by true e is = omega (arith, is, few)
    by false e is = omega (arith, is, room e)

-- ---- what is planned

-- a name is there where it is among the keys
pub there_by_keys : (state : State) (name : Text) (found : Bool) → IsTrue found ↔ Contains (map.keys state.rows) name → has_secret state name ≡ found
there_by_keys state name true tells = (let (cell, is) = row_there state.rows name (tells.0 refl) in ap is_some is)
there_by_keys state name false tells = ap is_some (row_missing state.rows name (λ has. false≢true (tells.1 has)))

module _ (ring : Ring) (name body : Text) (force : Bool) (state : State) where
  plan_ruled : (events : Events) (ids : Option Ids) → governing_ids state.rules state.mounts name ≡ ids → plan_insert ring name body force state events ≡ insert_ruled ring name body force state events ids
  plan_ruled events ids ruled = ap (insert_ruled ring name body force state events) ruled

  module _ (ids : Ids) (ruled : governing_ids state.rules state.mounts name ≡ Some ids) where
    plan_by_way : (events : Events) (b : Bool) → (not force && has_secret state name) ≡ b
        → plan_insert ring name body force state events ≡ cond b (answers (Refused (Exists name))) (insert_within ring name body state events ids (passed_by state name body))
    plan_by_way events b way = plan_ruled events (Some ids) ruled ∙ ap (λ w. cond w (answers (Refused (Exists name))) (insert_within ring name body state events ids (passed_by state name body))) way

    plan_within : (events : Events) (limit : Option Limit) → (not force && has_secret state name) ≡ false → passed_by state name body ≡ limit
        → plan_insert ring name body force state events ≡ insert_within ring name body state events ids limit
    plan_within events limit fresh is = plan_by_way events false fresh ∙ ap (insert_within ring name body state events ids) is

    pub plan_sealed : (unknown : Option ℕ) → (not force && has_secret state name) ≡ false → passed_by state name body ≡ None → first_unknown ring ids ≡ unknown
        → plan_insert ring name body force state calm ≡ insert_sealed name body state ids unknown
    plan_sealed unknown fresh room is = plan_within calm None fresh room ∙ ap (insert_sealed name body state ids) is

    plan_failed : (not force && has_secret state name) ≡ false → passed_by state name body ≡ None → plan_insert ring name body force state (refusing name) ≡ answers_by_tool (Refused (Tool name))
    plan_failed fresh room = plan_within (refusing name) None fresh room
        ∙ ap (λ b. cond b (answers_by_tool (Refused (Tool name))) (insert_sealed name body state ids (first_unknown ring ids))) ((bytes_eq-Decides name name).1 refl)

    -- where nothing failed before, the tool is called once
    pub calls_once : (not force && has_secret state name) ≡ false → passed_by state name body ≡ None → (plan_insert ring name body force state calm).calls ≡ 1
    calls_once fresh room = by (first_unknown ring ids) refl
      where
        by : (unknown : Option ℕ) → first_unknown ring ids ≡ unknown → (plan_insert ring name body force state calm).calls ≡ 1
        by None is = ap (λ (p : Plan State). p.calls) (plan_sealed None fresh room is)
        by (Some place) is = ap (λ (p : Plan State). p.calls) (plan_sealed (Some place) fresh room is)

-- ---- the ways that change nothing

module _ (opens : Opens) (root : Text) (ring : Ring) (name body : Text) (force : Bool) (state : State) (old new : Moment) (stands : StandsFor opens root old.view.files state) (still : Still root old new) where
  -- no rule governs the name
  pub insert_no_rule : governing_ids state.rules state.mounts name ≡ None → new.calls ≤ old.calls → Performs (StandsFor opens root) root (plan_insert ring name body force state) state old new (just (Refused (NoRule name)))
  insert_no_rule none few = quiet (StandsFor opens root) root state (plan_insert ring name body force state) old new stands still calm (Refused (NoRule name)) 0 (calm_tied old.faults new.faults still.tools_later) (omega (arith, few))
      (plan_ruled ring name body force state calm None none)

  -- there was no memory
  pub insert_no_memory : new.calls ≤ old.calls + (plan_insert ring name body force state calm).calls → Performs (StandsFor opens root) root (plan_insert ring name body force state) state old new (just (Refused NoMemory))
  insert_no_memory few = quiet_stop (StandsFor opens root) root state (plan_insert ring name body force state) old new stands still Memory (λ e. absurd (cc)) few

  module _ (ids : Ids) (ruled : governing_ids state.rules state.mounts name ≡ Some ids) where
    -- the secret stands in the way
    pub insert_in_the_way : (not force && has_secret state name) ≡ true → new.calls ≤ old.calls → Performs (StandsFor opens root) root (plan_insert ring name body force state) state old new (just (Refused (Exists name)))
    insert_in_the_way way few = quiet (StandsFor opens root) root state (plan_insert ring name body force state) old new stands still calm (Refused (Exists name)) 0 (calm_tied old.faults new.faults still.tools_later) (omega (arith, few))
        (plan_by_way ring name body force state ids ruled calm true way)

    module _ (fresh : (not force && has_secret state name) ≡ false) where
      -- a limit would be passed
      pub insert_full : (limit : Limit) → passed_by state name body ≡ Some limit → new.calls ≤ old.calls → Performs (StandsFor opens root) root (plan_insert ring name body force state) state old new (just (Refused (Full limit)))
      insert_full limit is few = quiet (StandsFor opens root) root state (plan_insert ring name body force state) old new stands still calm (Refused (Full limit)) 0 (calm_tied old.faults new.faults still.tools_later) (omega (arith, few))
          (plan_within ring name body force state ids ruled calm (Some limit) fresh is)

      module _ (room : passed_by state name body ≡ None) (few : new.calls ≤ old.calls + 1) where
        -- the tool failed
        pub insert_failed : Rose old.faults.tools new.faults.tools → Performs (StandsFor opens root) root (plan_insert ring name body force state) state old new (just (Refused (Tool name)))
        insert_failed rose = quiet (StandsFor opens root) root state (plan_insert ring name body force state) old new stands still (refusing name) (Refused (Tool name)) 1 (refusing_tied old.faults new.faults name rose) few
            (plan_failed ring name body force state ids ruled fresh room)

        -- the tool does not know an id
        pub insert_unknown : (place : ℕ) (id : Text) → first_unknown ring ids ≡ Some place → id ≡ slice_index_or ids place [] → Performs (StandsFor opens root) root (plan_insert ring name body force state) state old new (just (Refused (UnknownId id)))
        insert_unknown place id unknown same = quiet (StandsFor opens root) root state (plan_insert ring name body force state) old new stands still calm (Refused (UnknownId id)) 1 (calm_tied old.faults new.faults still.tools_later) few
            (plan_sealed ring name body force state ids ruled (Some place) fresh room unknown ∙ ap (λ (t : Text). answers_by_tool (Refused (UnknownId t))) (sym same))

        -- there was no memory once the tool was called
        pub insert_no_memory_then : Performs (StandsFor opens root) root (plan_insert ring name body force state) state old new (just (Refused NoMemory))
        insert_no_memory_then = insert_no_memory (omega (arith, few, calls_once ring name body force state ids ruled fresh room))
