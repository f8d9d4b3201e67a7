use Rattle.std.proofs.Common.{◌≡◌, map, take}
use Rattle.prism_tree.specs.Syntax as prism
use Rattle.prism_tree.specs.Syntax.{file_of}
use Rattle.jani_tree.specs.Syntax as jani
use Rattle.jani_edges.specs.Code.{names_in}
use Rattle.jani_translation.specs.Automata.{edge}
use Rattle.jani_edges.proofs.commands.edges.Given as goal

abbrev pub invariant-loop-c : goal.invariant-loop-c
invariant-loop-c l = map jani.edge_of l.all ≡ map (edge (names_in l.names) l.silently) (map (prism.command_of) (take l.c-index l.commands))
