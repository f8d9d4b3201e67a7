use Rattle.std.specs.Prelude.{map}
use Rattle.std.specs.List.{flat_map}
use Rattle.std.proofs.Common.{refl}
use Rattle.basics.specs.Options.{if_some}
use Rattle.jani_tree.specs.Syntax.{edge_of}
use Rattle.name_rules.specs.Names.{named_by}
use Rattle.gathering.proofs.Loops.{flat_left, none_left}
use Rattle.jani_check.proofs.naming.add_actions.Goals as goal

pub loop-edge-preserved : goal.loop-edge-preserved
loop-edge-preserved c =
    flat_left (λ e. if_some e.action) edge_of _ (map named_by c.loop-edge.list.items) (map named_by c.add_names.new.list.items) c.args.edges.now c.loop-edge.edge-index c.edge-item.result
    c.loop-edge-test.true c.edge-item.is c.loop-edge.invariant c.in_ok-add_names.ensures

pub returns : goal.returns
returns c = none_left (λ l. flat_map (λ e. if_some e.action) (map edge_of l)) _ (map named_by c.loop-edge.list.items) c.args.edges.now c.loop-edge.edge-index refl c.loop-edge-test.false c.loop-edge.invariant
