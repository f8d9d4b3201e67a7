use Rattle.std.proofs.Common.{◌≡◌, map, take}
use Rattle.name_rules.specs.Circles.{declared_by}
use Rattle.prism_tree.specs.Syntax.{const_of}
use Rattle.prism_instance.specs.Constants.{declared_const}
use Rattle.prism_instance.proofs.constants.declarations.Given as goal

abbrev pub invariant-loop-constant : goal.invariant-loop-constant
invariant-loop-constant l = map declared_by l.all.items ≡ map declared_const (map const_of (take l.constant-index l.constants))
