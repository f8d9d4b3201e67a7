use Rattle.jani_tree.proofs.build.+expression.Goals as goal
use Rattle.jani_tree.proofs.Operation.{has_operator}

pub expression-unreachable-requires : goal.expression-unreachable-requires
expression-unreachable-requires t c = has_operator _ _ _ _ _ _ c.as_slice.ensures c.in-Object.is c.named_operator.ensures c.in-None.is c.requires
