-- Rules: a finite map from folders to the recipients of what is below them.
use Rattle.std.specs.Prelude.{◌≡◌, ℕ, ◌<◌, ◌≤◌, T, List, [], length, slice_index_or, Option, Some}
use Rattle.std.specs.List.{zip}
use Rattle.std.specs.Ordering.{nat_cmp}
use Rattle.std.specs.Cmp.Lexicographic.{slice_cmp}
use Rattle.std.specs.FinMap as map
use Rattle.std.specs.FinMap.Entries.{is_sorted}
use Rattle.gopass_base.specs.Text.{Text}
use Rattle.gopass_base.specs.Order.{TextMap}
use Rattle.mount_table.specs.Mounts.{IsBelow}
use Rattle.recipient_files.specs.Ids.{Ids}
use Rattle.path_rules.specs.declared.entries.Spot.{Spot}
use Rattle.path_rules.specs.declared.entries.Spot.TheVariants.{At, Before}

-- folders, each with its set of ids, in the order of bytes
abbrev pub RuleMap : Type 0
RuleMap = TextMap Ids

-- the rule of a folder
abbrev pub rule_at : RuleMap → Text → Option Ids
rule_at rules folder = map.get rules folder

-- the folder has a rule
abbrev pub HasRule : RuleMap → Text → Type 0
HasRule rules folder = (ids : Ids) × (rule_at rules folder ≡ Some ids)

-- ---- how the code keeps them: two lists, where the k-th set is that of the k-th folder

abbrev pub map_of : List Text → List Ids → RuleMap
map_of folders sets = map.from_sorted {R = slice_cmp nat_cmp} (zip folders sets)

-- the lists are as long, and the folders rise
pub record AreEntries (folders : List Text) (sets : List Ids) : Type 0 where
  pub as_many : length sets ≡ length folders
  pub rising : T (is_sorted (slice_cmp nat_cmp) (zip folders sets))

-- where a folder stands in such a list: at an index, or before the first that is above it
abbrev pub IsSpot : List Text → Text → Spot → Type 0
IsSpot folders folder (At index) = (index < length folders) × (slice_index_or folders index [] ≡ folder)
IsSpot folders folder (Before index) =
    (index ≤ length folders)
    × ((k : ℕ) → k < index → IsBelow (slice_index_or folders k []) folder)
    × ((k : ℕ) → index ≤ k → k < length folders → IsBelow folder (slice_index_or folders k []))
