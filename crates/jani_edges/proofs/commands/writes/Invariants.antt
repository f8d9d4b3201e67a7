use Rattle.std.proofs.Common.{◌≡◌, map, take}
use Rattle.prism_tree.specs.Syntax as prism
use Rattle.prism_tree.specs.Syntax.{file_of}
use Rattle.jani_tree.specs.Syntax as jani
use Rattle.jani_edges.specs.Code.{names_in}
use Rattle.jani_translation.specs.Automata.{write}
use Rattle.jani_edges.proofs.commands.writes.Given as goal

abbrev pub invariant-loop-w : goal.invariant-loop-w
invariant-loop-w l = map jani.write_of l.all ≡ map (write (names_in l.names)) (map (prism.write_of) (take l.w-index l.list))
