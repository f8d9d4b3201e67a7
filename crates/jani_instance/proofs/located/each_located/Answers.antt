use Rattle.std.proofs.Common.{◌∙◌, map, ap}
use Rattle.gathering.specs.Lists.{list_for}
use Rattle.jani_instance.specs.Actions.{lent_edge, located_among}
use Rattle.jani_instance.specs.Shapes.{located_of}
use Rattle.instance_start.proofs.Numbered.{counted_more}
use Rattle.jani_instance.proofs.located.each_located.Goals as goal

pub loop-n-preserved : goal.loop-n-preserved
loop-n-preserved c =
    let s = c.args.site.now in
    counted_more located_of (λ n. located_among s (map lent_edge (list_for c.args.starting.now n))) c.loop-n.n c.loop-n.all.items c.push.new.self.items _ c.loop-n.invariant c.in_ok-push.ensures.items
    (c.in_ok-located.ensures ∙ ap (λ l. located_among s (map lent_edge l)) c.get.ensures)
