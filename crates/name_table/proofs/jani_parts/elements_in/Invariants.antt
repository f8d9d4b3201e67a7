use Rattle.std.specs.Prelude.{◌≡◌, map, take}
use Rattle.jani_tree.specs.Syntax.{element_of}
use Rattle.jani_loops.specs.Elements.{element_view}
use Rattle.jani_loops.specs.Looped.{element_under}
use Rattle.name_table.proofs.jani_parts.elements_in.Given as goal

abbrev pub invariant-loop-e : goal.invariant-loop-e
invariant-loop-e l = map element_view l.all.items ≡ map (element_under l.automata) (map element_of (take l.e-index l.elements))
