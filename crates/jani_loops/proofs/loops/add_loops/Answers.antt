use Rattle.std.specs.Prelude.{List, map, ◌++◌}
use Rattle.std.specs.List.{filter}
use Rattle.std.proofs.Common.{ap, ◌∙◌}
use Rattle.gathering.specs.Lists.{list_under}
use Rattle.gathering.proofs.Loops.{flat_next}
use Rattle.op_trees.specs.Names.{is_called}
use Rattle.jani_tree.specs.declared.syntax.JaniLocation.{JaniLocation}
use Rattle.jani_tree.specs.Syntax.{automaton_of, edge_of, location_of}
use Rattle.jani_meaning.specs.Loops.{has_name, loop_at}
use Rattle.jani_loops.specs.Looped.{lent_edge, loop_with}
use Rattle.jani_loops.proofs.Made.{chosen_twice, same_loops}
use Rattle.jani_loops.proofs.loops.add_loops.Goals as goal

pub loop-x-preserved : goal.loop-x-preserved
loop-x-preserved c =
    let x = c.x-item.result in
    let a = automaton_of c.args.a.now in
    flat_next (λ x. map (loop_at a x) a.locations) c.args.actions.now c.loop-x.x-index x _ (map edge_of c.loop-x.all) (map edge_of c.add_loops_with.new.all)
    c.loop-x-test.true c.x-item.is c.loop-x.invariant
    (c.in_ok-add_loops_with.ensures
    ∙ ap (λ l. map edge_of c.loop-x.all ++ l)
    (ap (λ (ls : List JaniLocation). map (λ l. loop_with x l.name (map lent_edge (list_under c.in_ok-here.here l.name.name))) (map location_of ls)) c.as_slice-in-loop-x.ensures
    ∙ same_loops a x a.locations (list_under c.in_ok-here.here) (λ n.
    c.in_ok-here.ensures n
    ∙ ap (λ es. filter (λ e. is_called n e.location) (map lent_edge es)) (c.get.ensures ∙ ap (list_under c.in_ok-acting.acting) c.as_str.ensures)
    ∙ ap (filter (λ e. is_called n e.location)) (c.in_ok-acting.ensures x.name ∙ ap (λ es. filter (λ e. has_name x.name e.action) (map edge_of es)) c.as_slice.ensures)
    ∙ chosen_twice x.name n a.edges)))
