use Rattle.std.specs.Prelude.{map}
use Rattle.std.proofs.Common.{refl}
use Rattle.prism_tree.specs.Syntax.{formula_of}
use Rattle.name_rules.specs.Circles.{declared_by}
use Rattle.gathering.proofs.Loops.{map_left, none_left}
use Rattle.prism_check.specs.NameFaults.{declared_formula}
use Rattle.prism_check.proofs.declarations.add_formulas.Goals as goal

pub loop-formula-preserved : goal.loop-formula-preserved
loop-formula-preserved c =
    map_left declared_formula formula_of _ (map declared_by c.loop-formula.list.items) (map declared_by c.add.new.list.items) c.args.formulas.now c.loop-formula.formula-index
    c.formula-item.result _ c.loop-formula-test.true c.formula-item.is c.loop-formula.invariant c.in_ok-add.ensures refl

pub returns : goal.returns
returns c =
    none_left (λ xs. map declared_formula (map formula_of xs)) _ (map declared_by c.loop-formula.list.items) c.args.formulas.now c.loop-formula.formula-index refl c.loop-formula-test.false c.loop-formula.invariant
