use Rattle.std.proofs.Common.{◌≡◌, map, take}
use Rattle.prism_tree.specs.Syntax.{file_of}
use Rattle.jani_tree.specs.Syntax as jani
use Rattle.jani_edges.specs.Code.{names_in}
use Rattle.jani_translation.specs.Automata.{monitor_edge, for_action}
use Rattle.jani_translation.specs.Parts.{made}
use Rattle.jani_edges.proofs.monitor.action_edges.Given as goal

abbrev pub invariant-loop-a : goal.invariant-loop-a
invariant-loop-a l = map jani.edge_of l.all ≡ map (λ a. monitor_edge (names_in l.names) (file_of l.file) (made ((names_in l.names).action a)) (for_action a)) (map (λ x. x.now) (take l.a-index l.earning))
