use Rattle.std.proofs.Common.{◌≡◌, ◌++◌, drop}
use Rattle.listing_texts.specs.Lines.{on_lines}
use Rattle.listing_texts.proofs.lines.on_lines.Given as goal

abbrev pub invariant-loop-name : goal.invariant-loop-name
invariant-loop-name l = l.text.items ++ on_lines (drop l.name-index l.names) ≡ on_lines l.names
