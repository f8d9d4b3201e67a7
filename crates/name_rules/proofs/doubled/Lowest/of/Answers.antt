use Rattle.name_rules.specs.Doubled.{lowest_under}
use Rattle.name_rules.proofs.Clashes.{one_noted, all_noted}
use Rattle.name_rules.proofs.doubled.Lowest.of.Goals as goal

pub loop-n-preserved : goal.loop-n-preserved
loop-n-preserved c = λ q.
    one_noted (lowest_under c.loop-n.lowest) (lowest_under c.note.new.self) q c.args.names.now c.loop-n.n-index c.loop-n-test.true
    (c.in_ok-note.ensures q) (c.loop-n.invariant q)

pub returns : goal.returns
returns c = λ q. all_noted (lowest_under c.loop-n.lowest) q c.args.names.now c.loop-n.n-index c.loop-n-test.false (c.loop-n.invariant q)
