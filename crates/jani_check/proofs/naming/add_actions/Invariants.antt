use Rattle.std.specs.Prelude.{◌≡◌, ◌++◌, map, drop}
use Rattle.std.specs.List.{flat_map}
use Rattle.jani_tree.specs.Syntax.{edge_of}
use Rattle.basics.specs.Options.{if_some}
use Rattle.name_rules.specs.Names.{named_by}
use Rattle.jani_check.proofs.naming.add_actions.Given as goal

abbrev pub invariant-loop-edge : goal.invariant-loop-edge
invariant-loop-edge l =
    map named_by l.list.items ++ flat_map (λ e. if_some e.action) (map edge_of (drop l.edge-index l.edges))
    ≡ map named_by l.initial.list.items ++ flat_map (λ e. if_some e.action) (map edge_of l.edges)
