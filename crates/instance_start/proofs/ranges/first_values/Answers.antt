use Rattle.std.proofs.Common.{sym}
use Rattle.instance_start.proofs.Places.{all_first, firsts, no_first, one_first}
use Rattle.instance_start.proofs.ranges.first_values.Goals as goal

pub returns-in-None : goal.returns-in-None
returns-in-None c =
    no_first c.args.columns.now c.loop-column.column-index c.column-item.result c.loop-column.values (firsts c.args.columns.now) c.loop-column-test.true c.column-item.is
    (sym c.in-None.ensures) c.loop-column.invariant

pub loop-column-preserved : goal.loop-column-preserved
loop-column-preserved c =
    one_first c.args.columns.now c.loop-column.column-index c.column-item.result c.in-Some.value c.loop-column.values c.push.new.self (firsts c.args.columns.now) c.loop-column-test.true
    c.column-item.is (sym c.in-Some.ensures) c.in_ok-push-in-Some.ensures.ok c.loop-column.invariant

pub returns : goal.returns
returns c = all_first c.args.columns.now c.loop-column.column-index c.loop-column.values (firsts c.args.columns.now) c.loop-column-test.false c.loop-column.invariant
