use Rattle.std.specs.Prelude.{Option, Some, None, map, option_copied}
use Rattle.std.specs.Borrow.{Bor}
use Rattle.std.specs.Option.{option_map}
use Rattle.std.proofs.Common.{◌≡◌, ap, refl}
use Rattle.op_trees.specs.Tree.{tree}
use Rattle.prism_tree.specs.Syntax.{const_of}
use Rattle.name_rules.specs.Circles.{Declared, declared_by}
use Rattle.name_rules.specs.Uses.{used}
use Rattle.gathering.proofs.Loops.{map_left, none_left}
use Rattle.prism_check.specs.NameFaults.{declared_const}
use Rattle.prism_check.proofs.declarations.add_constants.Goals as goal

-- what a reference leads to
lent : {A X : Type 0} (f : A → X) (o : Option (Bor A)) (v : Option A) → option_copied o ≡ v → option_map (λ e. f e.now) o ≡ option_map f v
lent f None v e = ap (option_map f) e
lent f (Some x) v e = ap (option_map f) e

pub loop-constant-preserved : goal.loop-constant-preserved
loop-constant-preserved c =
    map_left declared_const const_of _ (map declared_by c.loop-constant.list.items) (map declared_by c.add.new.list.items) c.args.constants.now c.loop-constant.constant-index
    c.constant-item.result _ c.loop-constant-test.true c.constant-item.is c.loop-constant.invariant c.in_ok-add.ensures
    (ap {B = Declared} (λ o. record { name = c.constant-item.result.name; uses = used o }) (lent tree c.as_ref.result c.constant-item.result.value c.as_ref.ensures.value))

pub returns : goal.returns
returns c =
    none_left (λ xs. map declared_const (map const_of xs)) _ (map declared_by c.loop-constant.list.items) c.args.constants.now c.loop-constant.constant-index refl c.loop-constant-test.false c.loop-constant.invariant
