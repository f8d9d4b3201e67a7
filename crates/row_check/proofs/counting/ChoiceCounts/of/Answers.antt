use Rattle.std.proofs.Common.{take_all, subst, arith}
use Rattle.row_check.specs.Keys.{AreCounted}
use Rattle.row_check.proofs.Counted.{counted_more, count_fits, none_counted}
use Rattle.row_check.proofs.counting.ChoiceCounts.of.Goals as goal

pub loop-choice-init : goal.loop-choice-init
loop-choice-init c = none_counted c.new.result c.new.ensures.empty

pub add-requires : goal.add-requires
add-requires c = let small = count_fits c.loop-choice.counts.counts c.args.list.now c.loop-choice.choice-index c.in_ok-key_of.field-0 c.loop-choice.invariant c.loop-choice-test.true in omega arith

pub loop-choice-preserved : goal.loop-choice-preserved
loop-choice-preserved c =
    counted_more c.loop-choice.counts.counts c.add.new.self.counts c.args.list.now c.loop-choice.choice-index c.choice-item.result c.in_ok-key_of.field-0
    c.loop-choice-test.true c.choice-item.is c.in_ok-key_of.ensures c.loop-choice.invariant c.in_ok-add.ensures

pub returns : goal.returns
returns c = subst (AreCounted c.loop-choice.counts.counts) (take_all c.loop-choice.choice-index c.args.list.now c.loop-choice-test.false) c.loop-choice.invariant
