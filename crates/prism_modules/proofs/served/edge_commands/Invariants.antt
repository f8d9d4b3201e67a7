use Rattle.std.proofs.Common.{◌≡◌, ◌++◌, map, drop}
use Rattle.prism_tree.specs.Syntax as prism
use Rattle.jani_tree.specs.Syntax as jani
use Rattle.prism_targets.specs.Code.{edge_served}
use Rattle.module_parts.specs.Code.{element_of}
use Rattle.prism_modules.specs.Commands.{edge_commands}
use Rattle.prism_modules.proofs.served.edge_commands.Given as goal

abbrev pub invariant-loop-i : goal.invariant-loop-i
invariant-loop-i l =
    map prism.command_of l.all ++ edge_commands l.names (element_of l.el) (map jani.edge_of (drop l.i l.edges)) (map edge_served (drop l.i l.serving))
    ≡ edge_commands l.names (element_of l.el) (map jani.edge_of l.edges) (map edge_served l.serving)
