use Rattle.std.proofs.Common.{◌+◌, ◌*◌}
use Rattle.jani_table.specs.Node.{node, size}
use Rattle.jani_props.proofs.build.+expression.Given as goal

abbrev pub decreases-expression : goal.decreases-expression
decreases-expression l = 3 * size (node l.value.now) + 2

abbrev pub decreases-operation : goal.decreases-operation
decreases-operation l = 3 * size (node l.value.now) + 1

abbrev pub decreases-operand : goal.decreases-operand
decreases-operand l = 3 * size (node l.value.now)
