use Rattle.std.proofs.Common.{◌≡◌, map, take}
use Rattle.prism_tree.specs.Syntax.{const_of}
use Rattle.instance_start.specs.Columns.{constant_of}
use Rattle.prism_instance.specs.Described.{opened}
use Rattle.prism_instance.proofs.start.open_constants.Given as goal

abbrev pub invariant-loop-constant : goal.invariant-loop-constant
invariant-loop-constant l = map constant_of l.all.items ≡ map opened (map const_of (take l.constant-index l.constants))
