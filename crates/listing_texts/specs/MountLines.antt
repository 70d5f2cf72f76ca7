-- The mounts as they are printed: a line for each of them.
use Rattle.std.specs.Prelude.{List, [], ◌∷◌, ◌++◌}
use Rattle.gopass_base.specs.Text.{Text}
use Rattle.mount_table.specs.MountsText.{flag_of}
use Rattle.mount_table.specs.declared.mounts.Row.{Row}
use Rattle.listing_texts.specs.Lines.{shown_folder}

-- the alias, a tab, the directory, a tab, and whether git is on
abbrev pub mount_line : Row → Text
mount_line row = shown_folder row.alias ++ 9 ∷ (row.dir ++ 9 ∷ flag_of row.git)

-- each line has a line feed behind it
abbrev pub mounts_listing : List Row → Text
mounts_listing [] = []
mounts_listing (row ∷ rows) = mount_line row ++ 10 ∷ mounts_listing rows
