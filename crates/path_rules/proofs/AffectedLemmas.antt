-- Which set governs a secret of a store's mounts, and whether two sets are the same.
use Rattle.std.proofs.Common.{◌≡◌, ◌↔◌, ℕ, ◌<◌, List, length, Bool, Option, IsTrue, bytes_eq, ap, ◌∙◌}
use Rattle.std.specs.Bool.{one_answer}
use Rattle.std.specs.Cmp.Lexicographic.{pointwise, pointwise_decides, bytes_decides}
use Rattle.gopass_base.specs.Text.{Text}
use Rattle.gopass_base.specs.Parts.{parts}
use Rattle.mount_table.specs.NameFaults.{start_of}
use Rattle.mount_table.specs.Prefixes.{rest_start}
use Rattle.mount_table.specs.Mounts.{IsTable, IsMountOf, root_of, row_at}
use Rattle.mount_table.specs.MountOf.{mount_of}
use Rattle.mount_table.specs.declared.mounts.Row.{Row}
use Rattle.mount_table.proofs.MountLemmas.{one_row}
use Rattle.mount_table.proofs.MountOfLemmas.{mount_computed}
use Rattle.recipient_files.specs.Ids.{Ids}
use Rattle.path_rules.specs.RuleMap.{RuleMap}
use Rattle.path_rules.specs.Governing.{governing_below, alias_depth, governing_ids}
use Rattle.path_rules.proofs.FrontLemmas.{holds_less}

pub governs_here : (rules : RuleMap) (rows : List Row) (name : Text) (row from : ℕ) (found : Option Ids) → IsTable (root_of rows) rows → IsMountOf rows name row → from ≡ rest_start (row_at rows row).alias name
    → ((least : ℕ) → least < length (parts name) → from ≡ start_of (parts name) least → found ≡ governing_below rules least name) → found ≡ governing_ids rules rows name
governs_here rules rows name row from found table mount begins h =
    let computed : IsMountOf rows name (mount_of rows name) = mount_computed (root_of rows) name rows table in
    let same : row ≡ mount_of rows name = one_row (root_of rows) name rows row (mount_of rows name) table mount computed in
    h (alias_depth rows name) (holds_less (row_at rows (mount_of rows name)).alias name computed.holds) (begins ∙ ap (λ k. rest_start (row_at rows k).alias name) same)

pub same_ids : (b : Bool) (xs ys : Ids) → IsTrue b ↔ (xs ≡ ys) → b ≡ pointwise bytes_eq xs ys
same_ids b xs ys h = one_answer b (pointwise bytes_eq xs ys) (h.0, h.1) (pointwise_decides bytes_decides xs ys)
