use Rattle.std.proofs.Common.{◌≡◌, drop}
use Rattle.jani_table.specs.Node.{nodes}
use Rattle.jani_props.specs.Shape.{are_texts}
use Rattle.jani_props.proofs.shape.are_texts.Given as goal

abbrev pub invariant-loop-item : goal.invariant-loop-item
invariant-loop-item l = are_texts (nodes (drop l.item-index l.items)) ≡ are_texts (nodes l.items)
