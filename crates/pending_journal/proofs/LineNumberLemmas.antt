-- The line that is told of a bad journal is one of it.
use Rattle.std.proofs.Common.{◌≡◌, ℕ, ◌+◌, ◌≤◌, ◌==◌, List, [], ◌∷◌, ◌++◌, length, cond, codes, arith, ap}
use Rattle.std.specs.Prelude.{Some}
use Rattle.std.specs.List.{count_by}
use Rattle.std.proofs.lemmas.List.{length-map}
use Rattle.std.proofs.lemmas.List.Sums.{sum_by-append}
use Rattle.std.proofs.lemmas.List.Splits.{length-slice_split}
use Rattle.gopass_base.specs.Text.{Text}
use Rattle.gopass_base.specs.Lines.{cut_at}
use Rattle.gopass_base.proofs.LineLemmas.{cut_is}
use Rattle.pending_journal.specs.Journal.{put_lines, drop_lines}
use Rattle.pending_journal.specs.Steps.{journal_start}
use Rattle.pending_journal.specs.Change.{plan_in}
use Rattle.pending_journal.specs.Faults.{IsLineOf}
use Rattle.pending_journal.specs.declared.put.Put.{Put}
use Rattle.pending_journal.specs.declared.change.Change.{Change}

abbrev feeds : Text → ℕ
feeds text = count_by (λ b. b == 10) text

feeds_join : (t u : Text) → feeds (t ++ u) ≡ feeds t + feeds u
feeds_join t u = sum_by-append (λ b. cond (b == 10) 1 0) t u

feed_more : (t : Text) → feeds (10 ∷ t) ≡ 1 + feeds t
feed_more t = feeds_join (10 ∷ []) t

put_feeds : (ps : List Text) (rest : Text) → length ps + feeds rest ≤ feeds (put_lines ps rest)
put_feeds [] rest = omega arith
put_feeds (p ∷ ps) rest =
    let more = put_lines ps rest in
    let word : feeds (put_lines (p ∷ ps) rest) ≡ 0 + feeds (p ++ 10 ∷ more) = feeds_join (codes "put\t") (p ++ 10 ∷ more) in
    omega (arith, put_feeds ps rest, word, feeds_join p (10 ∷ more), feed_more more)

drop_feeds : (ps : List Text) (rest : Text) → length ps + feeds rest ≤ feeds (drop_lines ps rest)
drop_feeds [] rest = omega arith
drop_feeds (p ∷ ps) rest =
    let more = drop_lines ps rest in
    let word : feeds (drop_lines (p ∷ ps) rest) ≡ 0 + feeds (p ++ 10 ∷ more) = feeds_join (codes "drop\t") (p ++ 10 ∷ more) in
    omega (arith, drop_feeds ps rest, word, feeds_join p (10 ∷ more), feed_more more)

module _ (change : Change) (rest : Text) where
  start_feeds : length change.puts.items + length change.drops.items + 1 + feeds rest ≤ feeds (journal_start (plan_in change) rest)
  start_feeds =
      let steps = put_lines (plan_in change).puts (drop_lines change.drops.items rest) in
      let first : feeds (journal_start (plan_in change) rest) ≡ 1 + feeds steps = feeds_join (codes "journal 1\n") steps in
      let puts : length (plan_in change).puts ≡ length change.puts.items = length-map change.puts.items (λ (put : Put). put.path) in
      omega (arith, first, puts, put_feeds (plan_in change).puts (drop_lines change.drops.items rest), drop_feeds change.drops.items rest)

  -- the line behind the steps of a change
  pub line_next : (text : Text) (n : ℕ) → journal_start (plan_in change) rest ≡ text → n ≡ length change.puts.items + length change.drops.items + 2 → IsLineOf text n
  line_next text n is told =
      let pieces = length-slice_split (λ b. b == 10) text in
      (omega (arith, told), omega (arith, told, start_feeds, pieces, ap feeds is))

  -- the line behind that, where the first one ends
  pub line_past : (line after text : Text) (n : ℕ) → journal_start (plan_in change) rest ≡ text → cut_at 10 rest ≡ Some (line, after) → n ≡ length change.puts.items + length change.drops.items + 3 → IsLineOf text n
  line_past line after text n is cut told =
      let pieces = length-slice_split (λ b. b == 10) text in
      let more = ap feeds (cut_is 10 rest line after cut) in
      (omega (arith, told), omega (arith, told, start_feeds, pieces, ap feeds is, more, feeds_join line (10 ∷ after), feed_more after))

pub line_first : (text : Text) → IsLineOf text 1
line_first text = (omega arith, omega (arith, length-slice_split (λ b. b == 10) text))
