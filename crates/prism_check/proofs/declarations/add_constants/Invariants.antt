use Rattle.std.specs.Prelude.{◌≡◌, ◌++◌, map, drop}
use Rattle.prism_tree.specs.Syntax.{const_of}
use Rattle.name_rules.specs.Circles.{declared_by}
use Rattle.prism_check.specs.NameFaults.{declared_const}
use Rattle.prism_check.proofs.declarations.add_constants.Given as goal

abbrev pub invariant-loop-constant : goal.invariant-loop-constant
invariant-loop-constant l =
    map declared_by l.list.items ++ map declared_const (map const_of (drop l.constant-index l.constants))
    ≡ map declared_by l.initial.list.items ++ map declared_const (map const_of l.constants)
