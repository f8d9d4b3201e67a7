use Rattle.std.specs.Prelude.{◌≡◌, ◌++◌, map, take}
use Rattle.jani_tree.specs.Syntax.{automaton_of, edge_of}
use Rattle.jani_meaning.specs.Loops.{loops}
use Rattle.jani_loops.proofs.loops.add_loops.Given as goal

abbrev pub invariant-loop-x : goal.invariant-loop-x
invariant-loop-x l = map edge_of l.all ≡ map edge_of l.initial.all ++ loops (take l.x-index l.actions) (automaton_of l.a)
