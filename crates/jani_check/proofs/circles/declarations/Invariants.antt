use Rattle.std.specs.Prelude.{◌≡◌, ◌++◌, map, drop}
use Rattle.name_rules.specs.Circles.{declared_by}
use Rattle.jani_tree.specs.Syntax.{const_of}
use Rattle.jani_check.specs.Circles.{const_declared}
use Rattle.jani_check.proofs.circles.declarations.Given as goal

abbrev pub invariant-loop-c : goal.invariant-loop-c
invariant-loop-c l =
    map declared_by l.all.items ++ map const_declared (map const_of (drop l.c-index l.constants)) ≡ map const_declared (map const_of l.constants)
