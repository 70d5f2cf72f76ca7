-- The plan of `ls`.
use Rattle.std.specs.Prelude.{Bool, ◌||◌, List, bytes_eq, if◌then◌else◌}
use Rattle.std.specs.List.{list_any}
use Rattle.gopass_base.specs.Text.{Text}
use Rattle.mount_table.specs.declared.mounts.Row.{Row}
use Rattle.listing_texts.specs.Lines.{on_lines}
use Rattle.listing_texts.specs.Tree.{tree_of}
use Rattle.store_state.specs.State.{State}
use Rattle.store_core.specs.Plans.{Outcome, Done, Refused, Plan, answers}
use Rattle.store_core.specs.declared.refusal.Refusal.TheVariants.{NotFound}
use Rattle.store_core.specs.Reads.{rows_under}
use Rattle.store_core.specs.Show.{names_of, holds_one}

-- whether a mount has this alias; that of the root directory is the root folder
abbrev pub is_alias : List Row → Text → Bool
is_alias mounts folder = list_any (λ row. bytes_eq row.alias folder) mounts

-- the secrets of the folder: their full names, or their tree
abbrev pub listed : Bool → Text → List Text → Text
listed flat folder names = if flat then on_lines names else tree_of folder names

-- a folder is there where a secret lies in it, or a mount has it as its alias
abbrev pub list_folder : Bool → Text → (names : List Text) → List Row → Outcome
list_folder flat folder names mounts =
    if holds_one folder names || is_alias mounts folder then Done (listed flat folder (rows_under folder names)) else Refused NotFound

-- `ls` lists the secrets of a folder
abbrev pub plan_ls : Text → Bool → State → Plan State
plan_ls folder flat state = answers (list_folder flat folder (names_of state) state.mounts)
