use Rattle.std.proofs.Common.{◌≡◌, true, refl, ap, sym, ◌∙◌, ◌+◌, [], ◌∷◌, ◌++◌, length, take, drop, subst, arith, lit<}
use Rattle.std.proofs.lemmas.Iterator.Splits.{YieldsList-from_str_split}
use Rattle.std.proofs.lemmas.Iterator.Consumers.{YieldsList-turn, YieldsList-end}
use Rattle.std.proofs.lemmas.List.{length_push}
use Rattle.gopass_base.specs.Parts.{parts}
use Rattle.mount_table.specs.NameFaults.{span, start_of}
use Rattle.mount_table.proofs.PartLemmas.{parts_fill, turn_of}
use Rattle.path_rules.proofs.EntryLemmas.{rising}
use Rattle.path_rules.proofs.NearestLemmas.{IsSoFar, turn_short, turn_none, turn_some, all_seen}
use Rattle.path_rules.proofs.governing.nearest.Goals as goal
use Rattle.path_rules.proofs.governing.nearest.Goals.{then-at-from+in-At, then-at-from+in_default, else-at-from}

pub loop-part-init : goal.loop-part-init
loop-part-init c = record { begun = refl; placed = omega (arith, (parts_fill c.text-text.result.now).1); so_far = λ least lt is. refl }

pub spot_of-requires : goal.spot_of-requires
spot_of-requires c = rising c.args.folders.now c.args.sets.now c.requires.entries.as_many c.requires.entries.rising

pub loop-part-preserved : goal.loop-part-preserved
loop-part-preserved c =
    let item = YieldsList-turn (YieldsList-from_str_split 47 c.text-text.result.now (lit< tt) (cc) (cc) (cc)) c.loop-part.yielded _ c.loop-part.yielded_by _ _ c.in-Some.part c.in-Some.is c.next.ensures.steps in
    let turn = turn_of true c.text-text.result.now c.in-Some.part.now (length c.loop-part.yielded) c.loop-part.at item c.loop-part.invariant.begun c.loop-part.invariant.placed in
    let count = length_push c.loop-part.yielded c.in-Some.part in
    record {
      begun = turn.next ∙ ap (start_of (parts c.text-text.result.now)) (sym count);
      placed = subst (λ k. c.loop-part.at + (length c.in-Some.part.now + 1) + span (drop k (parts c.text-text.result.now)) ≡ length c.text-text.result.now + 1) (sym count) turn.left;
      so_far = elim c.if-at-from.branch [
        | then-at-from+in-At w ↦ subst (IsSoFar c.args.folders.now c.args.sets.now c.text-text.result.now c.args.from (length (c.loop-part.yielded ++ c.in-Some.part ∷ []))) (sym w.nearest-is)
            (turn_some c.args.folders.now c.args.sets.now c.text-text.result.now (take w.saturating_sub.result w.as_bytes.result.now) c.args.from c.loop-part.at (length c.loop-part.yielded) (length (c.loop-part.yielded ++ c.in-Some.part ∷ [])) w.in-At.index w.spot_of.result
            c.requires.entries turn.inside c.loop-part.invariant.begun count w.if-at-from.true (λ i. take (w.saturating_sub.ensures i) (w.as_bytes.ensures.value i)) w.spot_of.ensures w.in-At.is)
        | then-at-from+in_default w ↦ subst (IsSoFar c.args.folders.now c.args.sets.now c.text-text.result.now c.args.from (length (c.loop-part.yielded ++ c.in-Some.part ∷ []))) (sym w.nearest-is)
            (turn_none c.args.folders.now c.args.sets.now c.text-text.result.now (take w.saturating_sub.result w.as_bytes.result.now) c.args.from c.loop-part.at (length c.loop-part.yielded) (length (c.loop-part.yielded ++ c.in-Some.part ∷ [])) w.in_default.field-0 w.spot_of.result c.loop-part.nearest
            c.requires.entries turn.inside c.loop-part.invariant.begun count w.if-at-from.true (λ i. take (w.saturating_sub.ensures i) (w.as_bytes.ensures.value i)) w.spot_of.ensures w.in_default.is c.loop-part.invariant.so_far)
        | else-at-from w ↦ subst (IsSoFar c.args.folders.now c.args.sets.now c.text-text.result.now c.args.from (length (c.loop-part.yielded ++ c.in-Some.part ∷ []))) (sym w.nearest-is)
            (turn_short c.args.folders.now c.args.sets.now c.text-text.result.now c.args.from c.loop-part.at (length c.loop-part.yielded) (length (c.loop-part.yielded ++ c.in-Some.part ∷ [])) c.loop-part.nearest
            turn.inside c.loop-part.invariant.begun count w.if-at-from.false c.loop-part.invariant.so_far)
      ];
    }

pub returns-clause-rule : goal.returns-clause-rule
returns-clause-rule c =
    let item = YieldsList-end (YieldsList-from_str_split 47 c.text-text.result.now (lit< tt) (cc) (cc) (cc)) c.loop-part.yielded _ c.loop-part.yielded_by _ _ c.in-None.is c.next.ensures.steps in
    all_seen c.args.folders.now c.args.sets.now c.text-text.result.now c.args.name.now c.args.from (length c.loop-part.yielded) c.loop-part.nearest c.text-text.ensures.text item.1 c.loop-part.invariant.so_far
