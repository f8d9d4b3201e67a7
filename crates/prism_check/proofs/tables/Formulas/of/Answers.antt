use Rattle.std.specs.Option.{option_map, option_or}
use Rattle.std.proofs.Common.{refl, ap}
use Rattle.op_trees.specs.Tree.{tree}
use Rattle.prism_tree.specs.Syntax.{formula_of}
use Rattle.name_rules.specs.Names.{under}
use Rattle.name_rules.proofs.Maps.{at}
use Rattle.prism_check.specs.Tables.{body_in}
use Rattle.prism_check.proofs.First.{first_more}
use Rattle.prism_check.proofs.tables.Formulas.of.Goals as goal

pub loop-formula-init : goal.loop-formula-init
loop-formula-init c = λ x. ap (λ o. option_or (option_map (λ e. tree e.now) o) (body_in c.args.formulas.now x)) (at c.new-bodies.ensures x)

pub loop-formula-preserved : goal.loop-formula-preserved
loop-formula-preserved c = λ q.
    first_more formula_of (λ f. f.name.name) (option_map (λ e. tree e.now)) (option_map (λ f. f.body)) refl (λ z. refl)
    (under c.loop-formula.bodies) (under c.put_first.new.self) q _ _ c.args.formulas.now c.loop-formula.formula-index c.formula-item.result
    c.loop-formula-test.true c.formula-item.is c.as_str.ensures refl c.in_ok-put_first.ensures (c.loop-formula.invariant q)
