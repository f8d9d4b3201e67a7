use Rattle.std.specs.Prelude.{map}
use Rattle.std.proofs.Common.{ap, ◌∙◌}
use Rattle.gathering.specs.Lists.{list_under}
use Rattle.jani_tree.specs.Syntax.{Location, edge_of, location_of}
use Rattle.jani_loops.specs.Looped.{lent_edge, loop_with}
use Rattle.jani_loops.proofs.Made.{one_more}
use Rattle.jani_loops.proofs.loops.add_loops_with.Goals as goal

pub loop-l-preserved : goal.loop-l-preserved
loop-l-preserved c =
    let l = c.l-item.result in
    let made = λ (l : Location). loop_with c.args.action.now l.name (map lent_edge (list_under c.args.edges.now l.name.name)) in
    one_more edge_of made location_of c.args.locations.now c.loop-l.l-index l _ c.loop-l.all c.push.new.self c.in_ok-made.made c.loop-l-test.true c.l-item.is c.loop-l.invariant
    c.in_ok-push.ensures.ok
    (c.in_ok-made.ensures ∙ ap (λ es. loop_with c.args.action.now l.name (map lent_edge es)) (c.get-these.ensures ∙ ap (list_under c.args.edges.now) c.as_str.ensures))
