-- What the steps of `insert` find.
use Rattle.std.specs.Prelude.{◌≡◌, ◌↔◌, ℕ, Bool, true, false, not, ◌&&◌, nat_lt, nat_le, IsTrue, [], length, slice_index_or, Contains, Option, None, Some, Result, Ok, Err, Vec, if◌then◌else◌}
use Rattle.gopass_base.specs.Text.{Text}
use Rattle.mount_table.specs.Mounts.{IsMountOf}
use Rattle.recipient_files.specs.Ids.{Ids}
use Rattle.cipher_port.specs.Tool.{Opens, Ring, made_of, first_unknown}
use Rattle.store_state.specs.declared.fault.Limit.{Limit}
use Rattle.store_state.specs.declared.fault.Limit.TheVariants.{Secrets, Body, Files}
use Rattle.store_state.specs.declared.opening.Found.{Found}
use Rattle.store_core.specs.declared.refusal.Refusal.{Refusal}
use Rattle.store_core.specs.declared.refusal.Refusal.TheVariants.{NoRule, Exists, Full, UnknownId, Tool, NoMemory}
use Rattle.gopass_base.specs.Order.{IsRising}
use Rattle.cipher_port.specs.Limits.{most_body}
use Rattle.store_state.specs.Limits.{most_files, most_secrets}

-- no rule governs the name, or there was no memory
abbrev pub IsUnruled : Text → Option Ids → Refusal → Type 0
IsUnruled name ids (NoRule other) = (other ≡ name) × (ids ≡ None)
IsUnruled name ids NoMemory = Unit {0}
IsUnruled name ids _ = ⊥

-- the limit that is passed by a body, where the name is there or not, among so many secrets and files
abbrev pub limit_by : Text → Bool → (secrets files : ℕ) → Option Limit
limit_by body there secrets files =
    if nat_lt most_body (length body) then Some Body
    else if there then None
    else if nat_le most_secrets secrets then Some Secrets
    else if nat_le most_files files then Some Files
    else None

-- a secret may be put, or why not; there may be no memory for the name of one that is in the way
abbrev pub MayPut : (name : Text) → (force there : Bool) → Option Limit → {T : Type 0} → Result T Refusal → Type 0
MayPut name force there limit (Ok done) = (not force && there ≡ false) × (limit ≡ None)
MayPut name force there limit (Err (Exists other)) = (other ≡ name) × (not force && there ≡ true)
MayPut name force there limit (Err NoMemory) = not force && there ≡ true
MayPut name force there limit (Err (Full kind)) = (not force && there ≡ false) × (limit ≡ Some kind)
MayPut name force there limit (Err _) = ⊥

-- by what was found: whether the name is there, and how many files lie below the directory of its mount
pub record IsTested {T : Type 0} (found : Found) (name body : Text) (force : Bool) (result : Result T Refusal) : Type 0 where
  pub there : Bool
  pub among : IsRising found.seen.names.items → IsTrue there ↔ Contains found.seen.names.items name
  pub row : ℕ
  pub mount : IsMountOf found.mounts name row
  pub may : MayPut name force there (limit_by body there (length found.seen.names.items) (slice_index_or found.counts.items row 0)) result

-- the body is sealed for these ids, or why not
abbrev pub SealsBody : {A : Type 0} → Opens → Ring → Ids → (name body : Text) → Result (Vec ℕ A) Refusal → Type 0
SealsBody opens ring ids name body (Ok sealed) = (opens sealed.items ≡ Some (made_of ids body)) × (first_unknown ring ids ≡ None)
SealsBody opens ring ids name body (Err (UnknownId id)) = (place : ℕ) × (first_unknown ring ids ≡ Some place) × (id ≡ slice_index_or ids place [])
SealsBody opens ring ids name body (Err (Tool other)) = other ≡ name
SealsBody opens ring ids name body (Err NoMemory) = Unit {0}
SealsBody opens ring ids name body (Err _) = ⊥
