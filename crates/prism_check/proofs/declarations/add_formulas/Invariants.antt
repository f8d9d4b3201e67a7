use Rattle.std.specs.Prelude.{◌≡◌, ◌++◌, map, drop}
use Rattle.prism_tree.specs.Syntax.{formula_of}
use Rattle.name_rules.specs.Circles.{declared_by}
use Rattle.prism_check.specs.NameFaults.{declared_formula}
use Rattle.prism_check.proofs.declarations.add_formulas.Given as goal

abbrev pub invariant-loop-formula : goal.invariant-loop-formula
invariant-loop-formula l =
    map declared_by l.list.items ++ map declared_formula (map formula_of (drop l.formula-index l.formulas))
    ≡ map declared_by l.initial.list.items ++ map declared_formula (map formula_of l.formulas)
