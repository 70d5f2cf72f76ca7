use Rattle.std.proofs.Common.{◌≡◌, ◌++◌, ◌+◌, [], Bor, ap, sym, subst, arith, rules}
use Rattle.gopass_base.specs.Text.{Text}
use Rattle.gopass_base.specs.Parts.{parts}
use Rattle.mount_table.specs.Names.{folders}
use Rattle.listing_texts.specs.Tree.{secret_lines}
use Rattle.listing_texts.proofs.TreeLemmas.{lines_at, lines_whole, shorter, goes_in, prints}
use Rattle.listing_texts.proofs.tree.push_secret.Goals.{in-Some-behind_folder, in-None+in_ok-push_folder-in-None}
use Rattle.listing_texts.proofs.tree.push_secret.Goals as goal

pub loop-folder-init : goal.loop-folder-init
loop-folder-init c = record {
  lines = ap (λ t. c.args.text.now.items ++ t) (lines_whole (folders (parts c.args.before.now)) (parts c.args.rest.now));
  room = omega arith;
  inside_text = c.utf8.before;
  left_text = c.utf8.rest;
}

pub loop-folder-preserved : goal.loop-folder-preserved
loop-folder-preserved c =
    let whole = c.args.text.now.items ++ secret_lines (folders (parts c.args.before.now)) (parts c.args.rest.now) in
    let room = c.loop-folder.invariant.room in
    let below = shorter c.loop-folder.left.now c.in-Some.folder.now c.in-Some.below.now c.in-Some.ensures in
    elim c.match-behind_folder.branch [
      | in-Some-behind_folder w ↦ record {
        lines = subst (λ (b : Bor Text). c.match-behind_folder.text.items ++ lines_at (c.loop-folder.depth + 1) (folders (parts b.now)) (parts c.in-Some.below.now) ≡ whole) (sym w.inside-is)
            (goes_in c.loop-folder.text.items c.match-behind_folder.text.items whole c.loop-folder.depth c.loop-folder.inside.now w.in-Some-behind_folder.after.now c.loop-folder.left.now c.in-Some.folder.now c.in-Some.below.now
            c.loop-folder.invariant.lines c.in-Some.ensures w.in-Some-behind_folder.ensures (ap (λ v. v.items) w.text-is));
        room = omega (arith, room, below);
        inside_text = search rules;
        left_text = search rules;
      }
      | in-None+in_ok-push_folder-in-None w ↦ record {
        lines = subst (λ (b : Bor Text). c.match-behind_folder.text.items ++ lines_at (c.loop-folder.depth + 1) (folders (parts b.now)) (parts c.in-Some.below.now) ≡ whole) (sym w.inside-is)
            (subst (λ (t : Text). t ++ lines_at (c.loop-folder.depth + 1) [] (parts c.in-Some.below.now) ≡ whole) (sym (ap (λ v. v.items) w.text-is))
            (prints c.loop-folder.text.items w.push_folder.new.text.items whole c.loop-folder.depth c.loop-folder.inside.now c.loop-folder.left.now c.in-Some.folder.now c.in-Some.below.now
            c.loop-folder.invariant.lines c.in-Some.ensures w.in-None.ensures w.in_ok-push_folder-in-None.ensures));
        room = omega (arith, room, below);
        inside_text = search rules;
        left_text = search rules;
      }
    ]

pub loop-folder-smaller : goal.loop-folder-smaller
loop-folder-smaller c = shorter c.loop-folder.left.now c.in-Some.folder.now c.in-Some.below.now c.in-Some.ensures
