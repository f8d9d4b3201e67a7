use Rattle.std.proofs.Common.{sym, ap, append_assoc}
use Rattle.std.specs.Prelude.{codes}
use Rattle.op_trees.specs.Tree.{tree}
use Rattle.prism_print.proofs.Steps.{extend_done, and_done, text_done, one_call, one_operand, two_call, two_operands, three_operands}
use Rattle.prism_print.proofs.expressions.+expression.Goals as goal

pub write_after-returns : goal.write_after-returns
write_after-returns t c =
    and_done c.extend_from_slice.result c.write_operand.result c.and.result _ _ _ _ _ c.and.ensures
    (extend_done c.extend_from_slice.result c.args.before.now c.args.out.now.items _ c.extend_from_slice.ensures.items) c.write_operand.ensures

pub write_between-returns : goal.write_between-returns
write_between-returns t c =
    text_done c.and-2.result _ _ c.args.out.now.items _
    (and_done c.and.result c.extend_from_slice-2.result c.and-2.result _ _ _ _ _ c.and-2.ensures
    (and_done c.extend_from_slice.result c.write_expression.result c.and.result _ _ _ _ _ c.and.ensures
    (extend_done c.extend_from_slice.result c.args.before.now c.args.out.now.items _ c.extend_from_slice.ensures.items) c.write_expression.ensures)
    (extend_done c.extend_from_slice-2.result c.args.after.now c.write_expression.new.out.items _ c.extend_from_slice-2.ensures.items))
    (append_assoc c.args.before.now _ c.args.after.now)

pub write_expression-returns-then-is_function : goal.write_expression-returns-then-is_function
write_expression-returns-then-is_function t c =
    text_done c.and.result _ _ c.args.out.now.items _
    (and_done c.extend_from_slice-then-is_function.result c.write_between.result c.and.result _ _ _ _ _ c.and.ensures
    (extend_done c.extend_from_slice-then-is_function.result c.operator_text-sign.result.now c.args.out.now.items _ c.extend_from_slice-then-is_function.ensures.items)
    c.write_between.ensures)
    (one_call (tree c.args.e.now) (tree c.in-One.a.value) (tree c.deref.result.now) c.in-One.field-0 c.in-One.op _ (ap tree c.in-One.is) (sym c.if-is_function.ensures) c.operator_text-sign.ensures
    (ap tree c.deref.ensures))

pub write_expression-returns-else-is_function : goal.write_expression-returns-else-is_function
write_expression-returns-else-is_function t c =
    text_done c.write_after.result _ _ c.args.out.now.items _ c.write_after.ensures
    (one_operand (tree c.args.e.now) (tree c.in-One.a.value) (tree c.deref-else-is_function.result.now) c.in-One.field-0 c.in-One.op _ (ap tree c.in-One.is) (sym c.if-is_function.ensures)
    c.operator_text-sign.ensures (ap tree c.deref-else-is_function.ensures))

pub write_expression-returns-then-is_function-2 : goal.write_expression-returns-then-is_function-2
write_expression-returns-then-is_function-2 t c =
    text_done c.and-then-is_function-2-2.result _ _ c.args.out.now.items _
    (and_done c.and-then-is_function-2.result c.write_between-then-is_function-2-2.result c.and-then-is_function-2-2.result _ _ _ _ _ c.and-then-is_function-2-2.ensures
    (and_done c.extend_from_slice-then-is_function-2.result c.write_between-then-is_function-2.result c.and-then-is_function-2.result _ _ _ _ _ c.and-then-is_function-2.ensures
    (extend_done c.extend_from_slice-then-is_function-2.result c.operator_text-sign-in-Two.result.now c.args.out.now.items _ c.extend_from_slice-then-is_function-2.ensures.items)
    c.write_between-then-is_function-2.ensures)
    c.write_between-then-is_function-2-2.ensures)
    (two_call (tree c.args.e.now) (tree c.in-Two.a.value) (tree c.in-Two.b.value) (tree c.deref-then-is_function-2.result.now) (tree c.deref-then-is_function-2-2.result.now) c.in-Two.field-0 c.in-Two.op _
    (ap tree c.in-Two.is) (sym c.if-is_function-2.ensures) c.operator_text-sign-in-Two.ensures (ap tree c.deref-then-is_function-2.ensures) (ap tree c.deref-then-is_function-2-2.ensures))

pub write_expression-returns-else-is_function-2 : goal.write_expression-returns-else-is_function-2
write_expression-returns-else-is_function-2 t c =
    text_done c.and-else-is_function-2-3.result _ _ c.args.out.now.items _
    (and_done c.and-else-is_function-2-2.result c.write_after-else-is_function-2.result c.and-else-is_function-2-3.result _ _ _ _ _ c.and-else-is_function-2-3.ensures
    (and_done c.and-else-is_function-2.result c.extend_from_slice-else-is_function-2-2.result c.and-else-is_function-2-2.result _ _ _ _ _ c.and-else-is_function-2-2.ensures
    (and_done c.write_operand.result c.extend_from_slice-else-is_function-2.result c.and-else-is_function-2.result _ _ _ _ _ c.and-else-is_function-2.ensures c.write_operand.ensures
    (extend_done c.extend_from_slice-else-is_function-2.result (codes " ") c.write_operand.new.out.items _ c.extend_from_slice-else-is_function-2.ensures.items))
    (extend_done c.extend_from_slice-else-is_function-2-2.result c.operator_text-sign-in-Two.result.now c.extend_from_slice-else-is_function-2.new.self.items _ c.extend_from_slice-else-is_function-2-2.ensures.items))
    c.write_after-else-is_function-2.ensures)
    (two_operands (tree c.args.e.now) (tree c.in-Two.a.value) (tree c.in-Two.b.value) (tree c.deref-else-is_function-2.result.now) (tree c.deref-else-is_function-2-2.result.now) c.in-Two.field-0 c.in-Two.op _
    (ap tree c.in-Two.is) (sym c.if-is_function-2.ensures) c.operator_text-sign-in-Two.ensures (ap tree c.deref-else-is_function-2.ensures) (ap tree c.deref-else-is_function-2-2.ensures))

pub write_expression-returns-in-Three : goal.write_expression-returns-in-Three
write_expression-returns-in-Three t c =
    text_done c.and-in-Three-2.result _ _ c.args.out.now.items _
    (and_done c.and-in-Three.result c.write_after-in-Three-2.result c.and-in-Three-2.result _ _ _ _ _ c.and-in-Three-2.ensures
    (and_done c.write_operand-in-Three.result c.write_after-in-Three.result c.and-in-Three.result _ _ _ _ _ c.and-in-Three.ensures
    c.write_operand-in-Three.ensures c.write_after-in-Three.ensures)
    c.write_after-in-Three-2.ensures)
    (three_operands (tree c.args.e.now) (tree c.in-Three.a.value) (tree c.in-Three.b.value) (tree c.in-Three.c.value) (tree c.deref-in-Three.result.now) (tree c.deref-in-Three-2.result.now) (tree c.deref-in-Three-3.result.now)
    c.in-Three.field-0 c.in-Three.field-1 (ap tree c.in-Three.is) (ap tree c.deref-in-Three.ensures) (ap tree c.deref-in-Three-2.ensures) (ap tree c.deref-in-Three-3.ensures))
