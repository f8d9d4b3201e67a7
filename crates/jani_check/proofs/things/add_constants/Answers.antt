use Rattle.std.specs.Prelude.{bytes_eq}
use Rattle.std.proofs.Common.{ap, refl, List, ℕ}
use Rattle.op_trees.specs.Names.{is_called}
use Rattle.jani_tree.specs.Syntax.{const_of}
use Rattle.name_rules.proofs.Maps.{at}
use Rattle.jani_check.specs.Things.{const_thing}
use Rattle.jani_check.proofs.First.{first_thing}
use Rattle.jani_check.proofs.things.add_constants.Goals as goal

pub loop-c-preserved : goal.loop-c-preserved
loop-c-preserved c = λ x.
    first_thing const_thing (λ e. is_called x e.name) const_of c.args.constants.now c.loop-c.c-index c.c-item.result _ _ _ _ _ c.loop-c-test.true c.c-item.is
    (at c.in_ok-put_first.ensures x) (ap (λ (n : List ℕ). bytes_eq n x) c.as_str.ensures) refl (c.loop-c.invariant x)
