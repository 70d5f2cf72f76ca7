use Rattle.std.proofs.Common.{◌≡◌, ◌++◌, drop}
use denote.Shadow.{shadow}
use denote.Text.{Utf8}
use Rattle.gopass_base.specs.Parts.{parts}
use Rattle.mount_table.specs.Names.{folders}
use Rattle.listing_texts.specs.Tree.{tree_below, tree_of}
use Rattle.listing_texts.proofs.tree.tree_of.Given as goal

abbrev pub invariant-loop-name : goal.invariant-loop-name
invariant-loop-name l = record {
  lines : l.text.items ++ tree_below l.folder (folders (parts l.before)) (drop l.name-index l.names) ≡ tree_of l.folder l.names;
  before_text : shadow (Utf8 l.before);
}
