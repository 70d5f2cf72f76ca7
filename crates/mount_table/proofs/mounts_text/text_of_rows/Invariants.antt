use Rattle.std.proofs.Common.{◌≡◌, ◌++◌, drop}
use Rattle.mount_table.specs.MountsText.{table_text}
use Rattle.mount_table.proofs.mounts_text.text_of_rows.Given as goal

abbrev pub invariant-loop-row : goal.invariant-loop-row
invariant-loop-row l = l.out.items ++ table_text (drop l.row-index l.rows) ≡ table_text l.rows
