use Rattle.std.proofs.Common.{◌≡◌, ◌++◌, Some, None, map, drop}
use Rattle.std.specs.List.{filter}
use Rattle.process_core.specs.Instance.{numbered}
use Rattle.jani_tree.specs.Syntax.{var_of}
use Rattle.jani_meaning.specs.Elements.{owned_by}
use Rattle.jani_loops.specs.Elements.{element_view}
use Rattle.name_table.specs.JaniParts.{owned_of, is_wanted}
use Rattle.name_table.proofs.jani_parts.chosen.Given as goal

abbrev pub invariant-loop-i : goal.invariant-loop-i
invariant-loop-i l =
    map owned_of l.all.items ++ numbered (λ i a. filter (is_wanted l.wanted) (owned_by (Some i) a.variables)) l.i (map element_view (drop l.i l.automata))
    ≡ filter (is_wanted l.wanted) (owned_by None (map var_of l.file.variables))
    ++ numbered (λ i a. filter (is_wanted l.wanted) (owned_by (Some i) a.variables)) 0 (map element_view l.automata)
