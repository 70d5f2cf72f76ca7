-- The ways through `show`.
use Rattle.std.proofs.Common.{◌≡◌, ◌∙◌, ℕ, ◌+◌, ◌≤◌, Bool, cond, if◌then◌else◌, List, drop, Vec, Global, refl, sym, ap, subst, arith}
use Rattle.std.specs.Prelude.{Option, Some, None, Result, Ok, Err, Contains, option_map}
use Rattle.std.specs.FinMap as map
use Rattle.std.proofs.lemmas.Slice.Eq.{bytes_eq-Decides}
use Rattle.gopass_base.specs.Text.{Text}
use Rattle.gopass_base.specs.Faults.{Rose}
use Rattle.mount_table.specs.Names.{IsName}
use Rattle.gopass_base.specs.Paths.{file_of}
use Rattle.mount_table.specs.Prefixes.{rest_start}
use Rattle.mount_table.specs.Mounts.{IsFileOf, IsTable, row_at, root_of}
use Rattle.mount_table.specs.MountOf.{mount_of}
use Rattle.mount_table.proofs.MountLemmas.{one_row}
use Rattle.mount_table.proofs.MountOfLemmas.{mount_computed}
use Rattle.mount_table.specs.declared.mounts.Row.{Row}
use Rattle.disk_model.specs.Files.{Files}
use Rattle.pending_journal.specs.Service.{without_service}
use Rattle.cipher_port.specs.Tool.{Content, Opens, Ring}
use Rattle.store_core.specs.declared.read_fault.ReadFault.{ReadFault}
use Rattle.store_core.specs.declared.read_fault.ReadFault.TheVariants.{Disk as ReadDisk, NoMemory as ReadNoMemory}
use Rattle.store_core.specs.declared.refusal.Refusal.{Refusal}
use Rattle.store_core.specs.declared.refusal.Refusal.TheVariants.{NotFound, IsFolder, Exists, NoRule, Full, UnknownId, NoKey, NotSealed, Tool, Disk, NoMemory}
use Rattle.store_state.specs.declared.opening.Found.{Found}
use Rattle.store_state.specs.Opening.{IsFound}
use Rattle.store_state.specs.Places.{secret_path}
use Rattle.store_state.specs.State.{State, Cell, StandsFor, cell_of, cell_with}
use Rattle.store_core.specs.Plans.{Outcome, Done, Refused, Plan, answers_by_tool, outcome_by}
use Rattle.store_core.specs.Steps.{just}
use Rattle.store_core.specs.Events.{Events, calm, refusing, TheDisk, Memory}
use Rattle.store_core.specs.Moment.{Moment}
use Rattle.store_core.specs.Performs.{Performs}
use Rattle.store_core.specs.Refusals.{refusal_by_read}
use Rattle.store_core.specs.Show.{plan_show, names_of, shown, show_row}
use Rattle.store_core.specs.Unsealing.{IsNotSealed, Shows, why_missing}
use Rattle.store_state.proofs.NameLemmas.{no_service}
use Rattle.store_state.proofs.AgreeLemmas.{mounts_agree, table_agrees, row_named}
use Rattle.store_state.proofs.KeyLemmas.{row_missing, row_there}
use Rattle.store_core.proofs.PerformLemmas.{Still, calm_tied, refusing_tied, quiet, quiet_stop}

some_of : {X : Type 0} (f : Text → X) (file : Option Text) (x : X) → option_map f file ≡ Some x → (bytes : Text) × (file ≡ Some bytes)
some_of f None x e = absurd (cc)
some_of f (Some bytes) x e = (bytes, refl)

-- a file that is too long is not sealed
pub not_sealed_shows : (name : Text) (ring : Ring) (r : Refusal) → IsNotSealed name r → (content : Option Content) → content ≡ None → Shows {A = Global} name content ring (Err r)
not_sealed_shows name ring (NotSealed other) same content is = (same, is)
not_sealed_shows name ring NoMemory same content is = tt
not_sealed_shows name ring (NoKey other) same content is = absurd same
not_sealed_shows name ring (Tool other) same content is = absurd same
not_sealed_shows name ring NotFound same content is = absurd same
not_sealed_shows name ring IsFolder same content is = absurd same
not_sealed_shows name ring Disk same content is = absurd same
not_sealed_shows name ring (Exists other) same content is = absurd same
not_sealed_shows name ring (NoRule other) same content is = absurd same
not_sealed_shows name ring (Full limit) same content is = absurd same
not_sealed_shows name ring (UnknownId id) same content is = absurd same

-- and no fault of the tool
pub not_sealed_no_tool : (name : Text) (r : Refusal) → IsNotSealed name r → (other : Text) → ◌≡◌ {A = Result (Vec ℕ Global) Refusal} (Err r) (Err (Tool other)) → ⊥
not_sealed_no_tool name (NotSealed n) same other e = cc
not_sealed_no_tool name NoMemory same other e = cc
not_sealed_no_tool name (NoKey n) same other e = same
not_sealed_no_tool name (Tool n) same other e = same
not_sealed_no_tool name NotFound same other e = same
not_sealed_no_tool name IsFolder same other e = same
not_sealed_no_tool name Disk same other e = same
not_sealed_no_tool name (Exists n) same other e = same
not_sealed_no_tool name (NoRule n) same other e = same
not_sealed_no_tool name (Full limit) same other e = same
not_sealed_no_tool name (UnknownId id) same other e = same

-- the vault shows the file of a secret
secret_in_vault : (root : Text) (files : Files) (mounts : List Row) (name path : Text) → IsTable root mounts → IsName name → IsFileOf mounts name path → without_service root files path ≡ files (secret_path mounts name)
secret_in_vault root files mounts name path table good is =
    let own : is.row ≡ mount_of mounts name = one_row root name mounts is.row (mount_of mounts name) table is.mount (mount_computed root name mounts table) in
    let same : path ≡ secret_path mounts name = is.file ∙ ap (λ n. file_of (row_at mounts n).dir (drop (rest_start (row_at mounts n).alias name) name)) own in
    ap (without_service root files) same ∙ ap (λ (t : Bool). if t then None else files (secret_path mounts name)) (no_service root mounts name table good)

pub vault_file : (opens : Opens) (root : Text) (files : Files) (found : Found) (state : State) → ∥ IsFound root files found ∥₁ → StandsFor opens root files state → (name : Text) (mounts : List Row) (path : Text)
    → mounts ≡ found.mounts → IsTable (root_of mounts) mounts → IsName name → IsFileOf mounts name path → without_service root files path ≡ files (secret_path state.mounts name)
vault_file opens root files found state is stands name mounts path same table good file =
    let own = mounts_agree opens root files found state is stands in
    let here = table_agrees opens root files found state is stands (subst (λ (rows : List Row). IsTable (root_of rows) rows) same table) in
    secret_in_vault root files found.mounts name path here good (subst (λ (rows : List Row). IsFileOf rows name path) same file) ∙ ap (λ rows. files (secret_path rows name)) (sym own)

module _ (opens : Opens) (root : Text) (ring : Ring) (name : Text) (state : State) (old new : Moment) (stands : StandsFor opens root old.view.files state) (still : Still root old new) where
  row_plan : (events : Events) (row : Option Cell) → map.get state.rows name ≡ row → plan_show ring name state events ≡ show_row ring name (names_of state) events row
  row_plan events row is = ap (show_row ring name (names_of state) events) is

  -- there is no such secret
  pub show_missing : (Contains (names_of state) name → ⊥) → new.calls ≤ old.calls → Performs (StandsFor opens root) root (plan_show ring name state) state old new (just (Refused (why_missing name (names_of state))))
  show_missing out few = quiet (StandsFor opens root) root state (plan_show ring name state) old new stands still calm (Refused (why_missing name (names_of state))) 0 (calm_tied old.faults new.faults still.tools_later) (omega (arith, few))
      (row_plan calm None (row_missing state.rows name out))

  -- there was no memory
  pub show_no_memory : new.calls ≤ old.calls + (plan_show ring name state calm).calls → Performs (StandsFor opens root) root (plan_show ring name state) state old new (just (Refused NoMemory))
  show_no_memory few = quiet_stop (StandsFor opens root) root state (plan_show ring name state) old new stands still Memory (λ e. absurd (cc)) few

  -- the disk failed, or wanted memory
  pub show_fault : (fault : ReadFault) → (fault ≡ ReadDisk → Rose old.faults.disk new.faults.disk) → new.calls ≤ old.calls → Performs (StandsFor opens root) root (plan_show ring name state) state old new (just (Refused (refusal_by_read fault)))
  show_fault ReadDisk rose few = quiet_stop (StandsFor opens root) root state (plan_show ring name state) old new stands still TheDisk (λ e. rose refl) (omega (arith, few))
  show_fault ReadNoMemory rose few = show_no_memory (omega (arith, few))

  -- what is the name of a secret is a name
  pub named : Contains (names_of state) name → IsName name
  named has = (let (cell, is) = row_there state.rows name has in row_named opens root old.view.files state name cell stands is)

  module _ (good : IsName name) where
    -- a secret that is there has a file
    pub file_there : Contains (names_of state) name → (bytes : Text) × (old.view.files (secret_path state.mounts name) ≡ Some bytes)
    file_there has = (let (cell, is) = row_there state.rows name has in some_of (cell_of opens) (old.view.files (secret_path state.mounts name)) cell (sym (stands.secrets.row name good) ∙ is))

    module _ (bytes : Text) (file : old.view.files (secret_path state.mounts name) ≡ Some bytes) where
      cell_is : (content : Option Content) → opens bytes ≡ content → map.get state.rows name ≡ Some (cell_with content bytes)
      cell_is content e = stands.secrets.row name good ∙ (ap (option_map (cell_of opens)) file ∙ ap (λ c. Some (cell_with c bytes)) e)

      -- what is planned where nothing failed
      calmly : (content : Option Content) (said : Outcome) → opens bytes ≡ content → new.calls ≤ old.calls + 1 → shown ring name (cell_with content bytes) ≡ said → Performs (StandsFor opens root) root (plan_show ring name state) state old new (just said)
      calmly content said e few is = quiet (StandsFor opens root) root state (plan_show ring name state) old new stands still calm said 1 (calm_tied old.faults new.faults still.tools_later) few
          (row_plan calm (Some (cell_with content bytes)) (cell_is content e) ∙ ap answers_by_tool is)

      failed : new.calls ≤ old.calls + 1 → Rose old.faults.tools new.faults.tools → Performs (StandsFor opens root) root (plan_show ring name state) state old new (just (Refused (Tool name)))
      failed few rose = quiet (StandsFor opens root) root state (plan_show ring name state) old new stands still (refusing name) (Refused (Tool name)) 1 (refusing_tied old.faults new.faults name rose) few
          (row_plan (refusing name) (Some (cell_of opens bytes)) (cell_is (opens bytes) refl)
          ∙ ap (λ b. answers_by_tool (cond b (Refused (Tool name)) (shown ring name (cell_of opens bytes)))) ((bytes_eq-Decides name name).1 refl))

      -- what the tool gave
      pub show_given : (r : Result (Vec ℕ Global) Refusal) → Shows name (opens bytes) ring r → ((other : Text) → r ≡ Err (Tool other) → Rose old.faults.tools new.faults.tools) → new.calls ≤ old.calls + 1
          → Performs (StandsFor opens root) root (plan_show ring name state) state old new (just (outcome_by (λ (body : Vec ℕ Global). body.items) r))
      show_given (Ok body) (c, is, same, held) rose few = calmly (Some c) (Done body.items) is few (ap (λ b. cond b (Done c.body) (Refused (NoKey name))) held ∙ ap Done same)
      show_given (Err (NoKey other)) (same, (c, is, held)) rose few = calmly (Some c) (Refused (NoKey other)) is few
          (ap (λ b. cond b (Done c.body) (Refused (NoKey name))) held ∙ ap (λ n. Refused (NoKey n)) (sym same))
      show_given (Err (NotSealed other)) (same, is) rose few = calmly None (Refused (NotSealed other)) is few (ap (λ n. Refused (NotSealed n)) (sym same))
      show_given (Err (Tool other)) same rose few = subst (λ n. Performs (StandsFor opens root) root (plan_show ring name state) state old new (just (Refused (Tool n)))) (sym same) (failed few (rose other refl))
      show_given (Err NoMemory) is rose few = show_no_memory (omega (arith, few, ap (λ (p : Plan State). p.calls) (row_plan calm (Some (cell_of opens bytes)) (cell_is (opens bytes) refl))))
      show_given (Err NotFound) is rose few = absurd is
      show_given (Err IsFolder) is rose few = absurd is
      show_given (Err Disk) is rose few = absurd is
      show_given (Err (Exists other)) is rose few = absurd is
      show_given (Err (NoRule other)) is rose few = absurd is
      show_given (Err (Full limit)) is rose few = absurd is
      show_given (Err (UnknownId id)) is rose few = absurd is
