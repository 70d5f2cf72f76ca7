use Rattle.std.proofs.Common.{◌≡◌, ◌++◌, ◌+◌, ◌≤◌, length}
use denote.Shadow.{shadow}
use denote.Text.{Utf8}
use Rattle.gopass_base.specs.Parts.{parts}
use Rattle.mount_table.specs.Names.{folders}
use Rattle.listing_texts.specs.Tree.{secret_lines}
use Rattle.listing_texts.proofs.TreeLemmas.{lines_at}
use Rattle.listing_texts.proofs.tree.push_secret.Given as goal

abbrev pub invariant-loop-folder : goal.invariant-loop-folder
invariant-loop-folder l = record {
  lines : l.text.items ++ lines_at l.depth (folders (parts l.inside)) (parts l.left) ≡ l.initial.text.items ++ secret_lines (folders (parts l.fn.before)) (parts l.fn.rest);
  room : l.depth + length l.left ≤ length l.fn.rest;
  inside_text : shadow (Utf8 l.inside);
  left_text : shadow (Utf8 l.left);
}

abbrev pub decreases-loop-folder : goal.decreases-loop-folder
decreases-loop-folder l = length l.left
