use Rattle.std.specs.Prelude.{Some, bytes_eq, if◌then◌else◌}
use Rattle.std.proofs.Common.{◌∙◌, ap}
use Rattle.name_rules.specs.Names.{under}
use Rattle.prism_check.specs.Typing.{declared_type, is_declared_variable}
use Rattle.name_rules.proofs.Maps.{at}
use Rattle.prism_check.proofs.TypesInOrder.{known_more}
use Rattle.prism_check.proofs.typing.known_formulas.Goals as goal

pub loop-place-init : goal.loop-place-init
loop-place-init c = at c.new-table.ensures

pub loop-place-preserved : goal.loop-place-preserved
loop-place-preserved c =
    known_more (declared_type c.args.declared.now) (is_declared_variable c.args.declared.now) c.args.formulas.now c.args.order.now c.loop-place.place-index
    c.index-formulas-place.result (under c.loop-place.table) (under c.put.new.self) c.learned-known.result c.loop-place-test.true
    (c.requires c.loop-place.place-index 0 c.loop-place-test.true) c.index-formulas-place.is c.loop-place.invariant c.learned-known.ensures
    (λ x. at c.in_ok-put.ensures x ∙ ap (λ a. if bytes_eq a x then Some c.learned-known.result else under c.loop-place.table x) c.as_str.ensures)
