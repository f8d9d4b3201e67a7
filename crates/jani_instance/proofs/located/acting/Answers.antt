use Rattle.std.proofs.Common.{[]}
use Rattle.gathering.proofs.Loops.{flat_seen}
use Rattle.jani_instance.specs.Actions.{acted_by, lent_edge, number_in}
use Rattle.jani_instance.proofs.located.acting.Goals as goal

pub loop-e-preserved : goal.loop-e-preserved
loop-e-preserved c =
    flat_seen (acted_by (number_in c.args.actions.now) c.args.site.now) lent_edge c.args.these.now c.loop-e.e-index c.e-item.result [] _ _ c.loop-e-test.true c.e-item.is c.loop-e.invariant c.in_ok-add_acting.ensures
