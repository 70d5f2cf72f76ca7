use Rattle.std.proofs.Common.{◌≡◌, ◌++◌, drop}
use Rattle.listing_texts.specs.MountLines.{mounts_listing}
use Rattle.listing_texts.proofs.mount_lines.mounts_text.Given as goal

abbrev pub invariant-loop-row : goal.invariant-loop-row
invariant-loop-row l = l.text.items ++ mounts_listing (drop l.row-index l.mounts) ≡ mounts_listing l.mounts
