use Rattle.std.specs.Prelude.{map, bytes_eq}
use Rattle.std.specs.Option.{option_map, option_or}
use Rattle.std.proofs.Common.{ap, refl, List, ℕ}
use Rattle.op_trees.specs.Names.{is_called}
use Rattle.op_trees.specs.Tree.{tree}
use Rattle.jani_tree.specs.Syntax.{write_of}
use Rattle.name_rules.proofs.Maps.{at}
use Rattle.jani_check.specs.ProfileFaults.{value_for}
use Rattle.jani_check.proofs.First.{first_mapped}
use Rattle.jani_check.proofs.rewards.values_of.Goals as goal

pub loop-w-init : goal.loop-w-init
loop-w-init c = λ x. ap (λ o. option_or (option_map (λ e. tree e.now) o) (value_for (map write_of c.args.writes.now) x)) (at c.new-values.ensures x)

pub loop-w-preserved : goal.loop-w-preserved
loop-w-preserved c = λ x.
    first_mapped (λ e. tree e.now) (λ w. w.value) (λ w. is_called x w.target) write_of c.args.writes.now c.loop-w.w-index c.w-item.result _ _ _ _ _ c.loop-w-test.true c.w-item.is
    (at c.in_ok-put_first.ensures x) (ap (λ (n : List ℕ). bytes_eq n x) c.as_str.ensures) refl (c.loop-w.invariant x)
