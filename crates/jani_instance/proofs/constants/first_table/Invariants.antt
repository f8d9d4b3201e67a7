use Rattle.std.proofs.Common.{◌≡◌, map, take}
use Rattle.jani_tree.specs.Syntax.{const_of}
use Rattle.jani_instance.specs.Constants.{first_table}
use Rattle.jani_instance.proofs.constants.first_table.Given as goal

abbrev pub invariant-loop-constant : goal.invariant-loop-constant
invariant-loop-constant l = l.table.items ≡ first_table (map const_of (take l._constant-index l.constants))
