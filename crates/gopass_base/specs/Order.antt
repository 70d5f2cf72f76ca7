-- Texts in rising order, and maps from texts.
use Rattle.std.specs.Prelude.{◌↔◌, Bool, List, [], Contains}
use Rattle.std.specs.List.Retain.{DiffersFromLast, IsFiltered}
use Rattle.std.specs.List.Sorted.{IsPermutation, IsSorted, IsStrictlySortedBy}
use Rattle.std.specs.declared.cmp.Ordering.{Ordering}
use Rattle.std.specs.FinMap as map
use Rattle.std.specs.Ordering.{nat_cmp}
use Rattle.std.specs.Cmp.Lexicographic.{slice_cmp}
use Rattle.gopass_base.specs.Text.{Text}

-- each text is below those behind it, by bytes
abbrev pub IsRising : List Text → Type 0
IsRising texts = IsStrictlySortedBy (slice_cmp nat_cmp) texts

-- the texts of a list in rising order, each once
pub record IsSetOf (set texts : List Text) : Type 0 where
  pub rising : IsRising set
  pub same : (text : Text) → Contains set text ↔ Contains texts text

-- the items in rising order, without each that is equal to the one before it
pub record IsSortedOnce {T : Type 0} (cmp : T → T → Ordering) (eq : T → T → Bool) (items once : List T) : Type 0 where
  pub sorted : List T
  pub moved : IsPermutation items sorted
  pub rises : IsSorted cmp sorted
  pub kept : IsFiltered (DiffersFromLast eq) [] sorted once

-- a finite map from texts, in the order of bytes
abbrev pub TextMap : Type 0 → Type 0
TextMap X = map.FinMap {K = Text} (slice_cmp nat_cmp) X
