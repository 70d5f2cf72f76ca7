-- The plan of `insert`.
use Rattle.std.specs.Prelude.{ℕ, Bool, true, not, ◌&&◌, nat_lt, nat_le, length, slice_index_or, [], ◌∷◌, Option, None, Some, if◌then◌else◌}
use Rattle.std.specs.FinMap as map
use Rattle.gopass_base.specs.Text.{Text}
use Rattle.mount_table.specs.MountOf.{mount_of}
use Rattle.recipient_files.specs.Ids.{Ids}
use Rattle.path_rules.specs.Governing.{governing_ids}
use Rattle.cipher_port.specs.Tool.{Ring, made_of, first_unknown}
use Rattle.cipher_port.specs.Limits.{most_body}
use Rattle.store_state.specs.declared.fault.Limit.{Limit}
use Rattle.store_state.specs.declared.fault.Limit.TheVariants.{Secrets, Body, Files}
use Rattle.store_state.specs.Places.{secret_path}
use Rattle.store_state.specs.State.{State, Cell, Sealed}
use Rattle.store_state.specs.Limits.{most_files, most_secrets}
use Rattle.store_core.specs.Plans.{Refused, Plan, answers, answers_by_tool, commits}
use Rattle.store_core.specs.declared.refusal.Refusal.TheVariants.{Exists, NoRule, Full, UnknownId, Tool}
use Rattle.store_core.specs.Events.{Events, is_refused}
use Rattle.store_core.specs.Edit.{has_secret, resized}

-- the state in which the secret has this cell, and all else is as it was
abbrev pub with_cell : Text → Cell → State → State
with_cell name cell state = record state {
  rows = map.insert state.rows name cell;
  sizes = resized (has_secret state name) true (mount_of state.mounts name) state.sizes;
}

-- the limit that a new secret would pass: 8,192 secrets, or 40,000 files below the directory of its mount
abbrev pub full_for : State → Text → Option Limit
full_for state name =
    if nat_le most_secrets (map.len state.rows) then Some Secrets
    else if nat_le most_files (slice_index_or state.sizes (mount_of state.mounts name) 0) then Some Files
    else None

-- the limit that the secret with this body would pass
abbrev pub passed_by : State → Text → Text → Option Limit
passed_by state name body = if nat_lt most_body (length body) then Some Body else if has_secret state name then None else full_for state name

-- sealed for these ids, unless the tool does not know one of them
abbrev pub insert_sealed : Text → Text → State → Ids → Option ℕ → Plan State
insert_sealed name body state ids (Some place) = answers_by_tool (Refused (UnknownId (slice_index_or ids place [])))
insert_sealed name body state ids None = commits (with_cell name (Sealed (made_of ids body)) state) 1 (secret_path state.mounts name ∷ [])

abbrev pub insert_within : Ring → Text → Text → State → Events → Ids → Option Limit → Plan State
insert_within ring name body state events ids (Some limit) = answers (Refused (Full limit))
insert_within ring name body state events ids None =
    if is_refused name events then answers_by_tool (Refused (Tool name)) else insert_sealed name body state ids (first_unknown ring ids)

abbrev pub insert_ruled : Ring → Text → Text → Bool → State → Events → Option Ids → Plan State
insert_ruled ring name body force state events None = answers (Refused (NoRule name))
insert_ruled ring name body force state events (Some ids) =
    if not force && has_secret state name then answers (Refused (Exists name))
    else insert_within ring name body state events ids (passed_by state name body)

-- `insert` seals the body for the ids that govern the name, in one commit, and prints nothing
abbrev pub plan_insert : Ring → Text → Text → Bool → State → Events → Plan State
plan_insert ring name body force state events = insert_ruled ring name body force state events (governing_ids state.rules state.mounts name)
