use Rattle.std.proofs.Common.{◌≡◌, ◌++◌, map, drop}
use Rattle.std.specs.List.{zip}
use Rattle.jani_table.specs.Node.{node}
use Rattle.prop_trees.specs.Syntax.{property_of}
use Rattle.prop_to_jani.specs.Code.{entry_node}
use Rattle.prop_to_jani.proofs.translation.properties_json.Given as goal

abbrev pub invariant-loop-i : goal.invariant-loop-i
invariant-loop-i l =
    map node l.all ++ map (λ p. entry_node l.translator p.0 p.1) (zip (map property_of (drop l.i l.props)) (drop l.i l.entries))
    ≡ map (λ p. entry_node l.translator p.0 p.1) (zip (map property_of l.props) l.entries)
