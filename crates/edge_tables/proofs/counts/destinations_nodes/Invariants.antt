use Rattle.std.specs.Prelude.{◌≡◌, map, take}
use Rattle.std.specs.List.{sum_by}
use Rattle.op_trees.specs.Tree.{capped}
use Rattle.jani_tree.specs.Syntax.{destination_of}
use Rattle.prism_translation.specs.Refused.{destination_nodes}
use Rattle.edge_tables.proofs.counts.destinations_nodes.Given as goal

abbrev pub invariant-loop-d : goal.invariant-loop-d
invariant-loop-d l = l.sum ≡ capped (sum_by destination_nodes (map destination_of (take l.d-index l.destinations)))
