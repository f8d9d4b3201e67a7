use Rattle.prism_tree.specs.Syntax as prism
use Rattle.prism_tree.specs.Syntax.{file_of}
use Rattle.jani_tree.specs.Syntax as jani
use Rattle.jani_translation.specs.Automata.{edge}
use Rattle.jani_edges.specs.Code.{names_in}
use Rattle.jani_edges.proofs.commands.edges.Goals as goal
use Rattle.gathering.proofs.Loops.{mapped_more}

pub loop-c-preserved : goal.loop-c-preserved
loop-c-preserved c =
    mapped_more jani.edge_of (edge (names_in c.args.names.now) c.args.silently) (prism.command_of) c.args.commands.now c.loop-c.all c.push.new.self c.loop-c.c-index c.c-item.result c.in_ok-edge.field-0 c.loop-c-test.true c.c-item.is
    c.loop-c.invariant c.in_ok-edge.ensures c.in_ok-push.ensures.ok
