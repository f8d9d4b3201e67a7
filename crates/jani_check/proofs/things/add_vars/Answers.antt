use Rattle.std.specs.Prelude.{bytes_eq}
use Rattle.std.proofs.Common.{ap, List, ℕ}
use Rattle.op_trees.specs.Names.{is_called}
use Rattle.jani_tree.specs.Syntax.{var_of}
use Rattle.name_rules.proofs.Maps.{at}
use Rattle.jani_check.specs.Things.{var_thing}
use Rattle.jani_check.proofs.First.{first_thing}
use Rattle.jani_check.proofs.things.add_vars.Goals as goal

pub loop-var-preserved : goal.loop-var-preserved
loop-var-preserved c = λ x.
    first_thing var_thing (λ v. is_called x v.name) var_of c.args.vars.now c.loop-var.var-index c.var-item.result _ _ _ _ _ c.loop-var-test.true c.var-item.is
    (at c.in_ok-put_first.ensures x) (ap (λ (n : List ℕ). bytes_eq n x) c.as_str.ensures) c.var_thing.ensures (c.loop-var.invariant x)
