use Rattle.std.specs.List.{find}
use Rattle.std.specs.Option.{option_map, option_or}
use Rattle.std.proofs.Common.{refl, ap}
use Rattle.prism_tree.specs.Syntax.{const_of}
use Rattle.op_trees.specs.Names.{is_called}
use Rattle.name_rules.specs.Names.{under}
use Rattle.name_rules.proofs.Maps.{at}
use Rattle.std.specs.Prelude.{map}
use Rattle.prism_check.proofs.First.{first_more}
use Rattle.prism_check.proofs.variables.constant_types.Goals as goal

pub loop-constant-init : goal.loop-constant-init
loop-constant-init c = λ x.
    ap (λ o. option_or o (option_map (λ c. c.ty) (find (λ c. is_called x c.name) (map const_of c.args.constants.now)))) (at c.new-table.ensures x)

pub loop-constant-preserved : goal.loop-constant-preserved
loop-constant-preserved c = λ q.
    first_more const_of (λ k. k.name.name) (λ o. o) (option_map (λ k. k.ty)) refl (λ z. refl)
    (under c.loop-constant.table) (under c.put_first.new.self) q _ _ c.args.constants.now c.loop-constant.constant-index c.constant-item.result
    c.loop-constant-test.true c.constant-item.is c.as_str.ensures refl c.in_ok-put_first.ensures (c.loop-constant.invariant q)
