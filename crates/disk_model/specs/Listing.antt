-- What a listing of a directory has.
use Rattle.std.specs.Prelude.{◌≡◌, ◌≢◌, ◌↔◌, ◌==◌, ℕ, ◌-◌, ◌^◌, ◌<◌, ◌≤◌, Bool, false, not, bytes_eq, List, [], ◌∷◌, length, codes, map, filter, All, Contains, Option, None, Some, if◌then◌else◌}
use Rattle.std.specs.List.{list_any}
use Rattle.gopass_base.specs.Text.{Text}
use Rattle.gopass_base.specs.Order.{IsRising}
use Rattle.gopass_base.specs.Parts.{parts}
use Rattle.gopass_base.specs.Paths.{path_in}
use Rattle.disk_model.specs.Files.{Files}
use Rattle.disk_model.specs.Entries.{Entries}
use Rattle.disk_model.specs.declared.disk.Listed.{Listed}
use Rattle.disk_model.specs.declared.disk.Listed.TheVariants as listed

-- the path lies below the directory, and no part of what stands behind the directory is `.git`
pub record LiesIn (dir path : Text) : Type 0 where
  pub rest : Text
  pub whole : path ≡ path_in dir rest
  pub no_git : All (λ part. part ≢ codes ".git") (parts rest)

-- there is a file under the path
abbrev pub IsThere : Files → Text → Type 0
IsThere files path = (bytes : Text) × (files path ≡ Some bytes)

-- the paths of the files that lie in the directory, in rising order of their bytes
pub record IsListing (files : Files) (dir : Text) (paths : List Text) : Type 0 where
  pub rising : IsRising paths
  pub each : (path : Text) → Contains paths path ↔ (LiesIn dir path × IsThere files path)

-- what a listing of at most `max` paths gives: all of them, or that there are more
abbrev pub Lists : Files → Text → ℕ → Listed → Type 0
Lists files dir max (listed.All paths) = IsListing files dir paths.items
Lists files dir max listed.Many = (paths : List Text) × IsListing files dir paths × (max < length paths)

-- no more paths are given than were asked for, and there are never more than 2^64 - 1
abbrev pub IsShort : ℕ → Listed → Type 0
IsShort max (listed.All paths) = length paths.items ≤ max
IsShort max listed.Many = max < 2 ^ 64 - 1

-- ---- the same of a list of files, computed

-- what stands in a path behind a directory and a slash
abbrev pub rest_in : Text → Text → Option Text
rest_in [] [] = None
rest_in [] (c ∷ path) = if c == 47 then Some path else None
rest_in (b ∷ dir) [] = None
rest_in (b ∷ dir) (c ∷ path) = if b == c then rest_in dir path else None

abbrev pub has_git : Text → Bool
has_git rest = list_any (λ part. bytes_eq part (codes ".git")) (parts rest)

abbrev pub is_plain : Option Text → Bool
is_plain None = false
is_plain (Some rest) = not (has_git rest)

abbrev pub lies_in : Text → Text → Bool
lies_in dir path = is_plain (rest_in dir path)

-- the paths of a list of files that lie in the directory
abbrev pub paths_in : Text → Entries → List Text
paths_in dir entries = map (λ (e : Text × Text). e.0) (filter (λ (e : Text × Text). lies_in dir e.0) entries)

-- all of the paths where there are at most `max`, and else that there are more
abbrev pub IsAtMost : List Text → ℕ → Listed → Type 0
IsAtMost paths max (listed.All given) = (given.items ≡ paths) × (length given.items ≤ max)
IsAtMost paths max listed.Many = max < length paths
