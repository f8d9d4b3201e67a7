use Rattle.std.specs.Prelude.{◌≡◌, drop}
use Rattle.jani_tree.specs.Syntax.{automaton_of}
use Rattle.prism_targets.specs.Crowds.{has_many_edges}
use Rattle.prism_targets.proofs.crowds.has_many_edges.Given as goal

abbrev pub invariant-loop-x : goal.invariant-loop-x
invariant-loop-x l = has_many_edges (drop l.x-index l.actions) (automaton_of l.a) ≡ has_many_edges l.actions (automaton_of l.a)
