use Rattle.std.proofs.Common.{arith, refl, lit<}
use Rattle.std.proofs.lemmas.Iterator.Splits.{YieldsList-from_str_split}
use Rattle.std.proofs.lemmas.Iterator.Consumers.{YieldsList-turn, YieldsList-end}
use Rattle.std.proofs.lemmas.List.{length_push}
use borrow.Author.Count.{below_more}
use Rattle.gopass_base.specs.Parts.{parts}
use Rattle.mount_table.specs.NameFaults.{IsGoodAt}
use Rattle.mount_table.proofs.PartLemmas.{parts_fill, turn_of, fails_at, good_at}
use Rattle.mount_table.proofs.name.first_bad_part.Goals as goal

pub loop-part-init : goal.loop-part-init
loop-part-init c = record { counted = refl; begun = refl; placed = omega (arith, (parts_fill c.args.text.now).1); good = λ k lt. absurd (omega arith) }

pub returns-in-Some-fault_of_part : goal.returns-in-Some-fault_of_part
returns-in-Some-fault_of_part c =
    let item = YieldsList-turn (YieldsList-from_str_split 47 c.args.text.now (lit< tt) (cc) (cc) (cc)) c.loop-part.yielded _ c.loop-part.yielded_by _ _ c.in-Some.part c.in-Some.is c.next.ensures.steps in
    let turn = turn_of c.args.is_secret c.args.text.now c.in-Some.part.now c.loop-part.number c.loop-part.at (rw c.loop-part.invariant.counted item) c.loop-part.invariant.begun c.loop-part.invariant.placed in
    record {
      number = c.loop-part.number;
      inside = turn.inside;
      fails = fails_at c.args.is_secret c.args.text.now c.in-Some.part.now c.loop-part.number c.loop-part.at c.is_folder.result c.in-Some-fault_of_part.kind turn c.is_folder.ensures c.in-Some-fault_of_part.ensures;
      before = c.loop-part.invariant.good;
      place = c.loop-part.invariant.begun;
    }

pub loop-part-preserved : goal.loop-part-preserved
loop-part-preserved c =
    let item = YieldsList-turn (YieldsList-from_str_split 47 c.args.text.now (lit< tt) (cc) (cc) (cc)) c.loop-part.yielded _ c.loop-part.yielded_by _ _ c.in-Some.part c.in-Some.is c.next.ensures.steps in
    let turn = turn_of c.args.is_secret c.args.text.now c.in-Some.part.now c.loop-part.number c.loop-part.at (rw c.loop-part.invariant.counted item) c.loop-part.invariant.begun c.loop-part.invariant.placed in
    record {
      counted = omega (arith, length_push c.loop-part.yielded c.in-Some.part, c.loop-part.invariant.counted);
      begun = turn.next;
      placed = turn.left;
      good = below_more (IsGoodAt c.args.is_secret (parts c.args.text.now)) c.loop-part.number c.loop-part.invariant.good
          (good_at c.args.is_secret c.args.text.now c.in-Some.part.now c.loop-part.number c.loop-part.at c.is_folder.result turn c.is_folder.ensures c.in_default.ensures);
    }

pub returns : goal.returns
returns c =
    let item = YieldsList-end (YieldsList-from_str_split 47 c.args.text.now (lit< tt) (cc) (cc) (cc)) c.loop-part.yielded _ c.loop-part.yielded_by _ _ c.in-None.is c.next.ensures.steps in
    λ k lt. c.loop-part.invariant.good k (omega (arith, item.1, c.loop-part.invariant.counted))
