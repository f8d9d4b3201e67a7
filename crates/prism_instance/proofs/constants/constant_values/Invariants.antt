use Rattle.std.proofs.Common.{take}
use Rattle.name_rules.specs.Names.{under}
use Rattle.prism_tree.specs.Syntax.{file_of}
use Rattle.prism_instance.specs.Constants.{AreTurned}
use Rattle.prism_instance.proofs.constants.constant_values.Given as goal

abbrev pub invariant-loop-turn : goal.invariant-loop-turn
invariant-loop-turn l = AreTurned (file_of l.file) (under l.given) l.table.items (take l.turn-index l.order)
