use Rattle.std.proofs.Common.{◌≡◌, map, take}
use Rattle.prism_tree.specs.Syntax as prism
use Rattle.prism_tree.specs.Syntax.{file_of}
use Rattle.jani_tree.specs.Syntax as jani
use Rattle.jani_edges.specs.Code.{names_in}
use Rattle.jani_translation.specs.Automata.{destination}
use Rattle.jani_edges.proofs.commands.destinations.Given as goal

abbrev pub invariant-loop-b : goal.invariant-loop-b
invariant-loop-b l = map jani.destination_of l.all ≡ map (destination (names_in l.names)) (map (prism.branch_of) (take l.b-index l.branches))
