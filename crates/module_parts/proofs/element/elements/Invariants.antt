use Rattle.std.proofs.Common.{◌≡◌, ◌++◌, map, drop, take}
use Rattle.std.specs.List.{All}
use Rattle.jani_loops.specs.Elements.{element_view}
use Rattle.process_core.specs.Instance.{numbered}
use Rattle.module_parts.specs.Code.{element_of, IsElement, element_with}
use Rattle.module_parts.proofs.element.elements.Given as goal

abbrev pub invariant-loop-i : goal.invariant-loop-i
invariant-loop-i l = record {
  are : map element_of l.all.items ++ numbered element_with l.i (map element_view (drop l.i l.automata)) ≡ numbered element_with 0 (map element_view l.automata);
  located : All IsElement l.all.items;
  automata : map (λ el. el.automaton) l.all.items ≡ take l.i l.automata;
}
