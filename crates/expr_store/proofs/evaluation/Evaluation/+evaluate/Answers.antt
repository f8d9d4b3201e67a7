use Rattle.std.proofs.Common.{sym, ap, refl, ◌∙◌, Some, None, Err}
use Rattle.instance_start.specs.Columns.{value_at}
use Rattle.op_trees.specs.Meaning.{both_answer, narrowed}
use Rattle.op_trees.specs.declared.tree.EvalFail.TheVariants.{Undef}
use Rattle.state_choices.specs.Trimmed.{computed}
use Rattle.expr_store.specs.Nodes.{seen_at}
use Rattle.expr_store.specs.Rest.{finished}
use Rattle.expr_store.specs.Views.{nodes, same_seen}
use Rattle.expr_store.specs.declared.node.Node.TheVariants.{Fixed, Number, Name}
use Rattle.expr_store.proofs.Valued.{node_arm, one_arm, two_arm, three_arm}
use Rattle.expr_store.proofs.evaluation.Evaluation.+evaluate.Goals as goal

pub value_anew-returns-in-None-clause-value : goal.value_anew-returns-in-None-clause-value
value_anew-returns-in-None-clause-value g t c =
    let m = g.O.Operator.meaning in
    let e = c.args.self.now in
    let at = value_at e.values.now e.constants.now in
    let ns = nodes e.store.now in
    node_arm m at ns c.args.i None (sym c.node.ensures ∙ c.in-None.is) _ refl

pub value_anew-returns-in-Some-Fixed-clause-value : goal.value_anew-returns-in-Some-Fixed-clause-value
value_anew-returns-in-Some-Fixed-clause-value g t c =
    let m = g.O.Operator.meaning in
    let e = c.args.self.now in
    let at = value_at e.values.now e.constants.now in
    let ns = nodes e.store.now in
    node_arm m at ns c.args.i (Some (Fixed c.in-Some-Fixed.v)) (sym c.node.ensures ∙ c.in-Some-Fixed.is ∙ ap Some c.in-Some-Fixed.field-0-is) c.held.result c.held.ensures

pub value_anew-returns-in-Some-Number-clause-value : goal.value_anew-returns-in-Some-Number-clause-value
value_anew-returns-in-Some-Number-clause-value g t c =
    let m = g.O.Operator.meaning in
    let e = c.args.self.now in
    let at = value_at e.values.now e.constants.now in
    let ns = nodes e.store.now in
    node_arm m at ns c.args.i (Some (Number c.in-Some-Number.d)) (sym c.node.ensures ∙ c.in-Some-Number.is ∙ ap Some c.in-Some-Number.field-0-is) c.literal.result c.literal.ensures

pub value_anew-returns-in-Some-Name-clause-value : goal.value_anew-returns-in-Some-Name-clause-value
value_anew-returns-in-Some-Name-clause-value g t c =
    let m = g.O.Operator.meaning in
    let e = c.args.self.now in
    let at = value_at e.values.now e.constants.now in
    let ns = nodes e.store.now in
    node_arm m at ns c.args.i (Some (Name c.in-Some-Name.place)) (sym c.node.ensures ∙ c.in-Some-Name.is ∙ ap Some c.in-Some-Name.field-0-is) c.held-in-Some-Name.result (c.held-in-Some-Name.ensures ∙ ap narrowed c.value_at.ensures)

pub value_anew-returns-in-Some-One-clause-value : goal.value_anew-returns-in-Some-One-clause-value
value_anew-returns-in-Some-One-clause-value g t c =
    let m = g.O.Operator.meaning in
    let e = c.args.self.now in
    let at = value_at e.values.now e.constants.now in
    let ns = nodes e.store.now in
    one_arm m at ns c.args.i c.in-Some-One.o c.in-Some-One.a (sym c.node.ensures ∙ c.in-Some-One.is ∙ ap Some c.in-Some-One.field-0-is) c.value_of-first.result c.answer_of_one.result c.value_of-first.ensures.value c.answer_of_one.ensures

pub value_anew-returns-in-Nothing-clause-value : goal.value_anew-returns-in-Nothing-clause-value
value_anew-returns-in-Nothing-clause-value g t c =
    let m = g.O.Operator.meaning in
    let e = c.args.self.now in
    let at = value_at e.values.now e.constants.now in
    let ns = nodes e.store.now in
    let two = c.in-Some-Two in
    let first = c.value_of-first-in-Some-Two.result in
    two_arm m at ns c.args.i two.o two.a two.b (sym c.node.ensures ∙ c.in-Some-Two.is ∙ ap Some c.in-Some-Two.field-0-is) first _ c.rest_of_two.result c.value_of-first-in-Some-Two.ensures.value c.rest_of_two.ensures
    ((ap (λ q. finished m c.in-Some-Two.o c.value_of-first-in-Some-Two.result q (computed (seen_at m at ns c.in-Some-Two.b)) (Err Undef)) (sym c.in-Nothing.is)))

pub value_anew-returns-in-Second-clause-value : goal.value_anew-returns-in-Second-clause-value
value_anew-returns-in-Second-clause-value g t c =
    let m = g.O.Operator.meaning in
    let e = c.args.self.now in
    let at = value_at e.values.now e.constants.now in
    let ns = nodes e.store.now in
    let two = c.in-Some-Two in
    let first = c.value_of-first-in-Some-Two.result in
    two_arm m at ns c.args.i two.o two.a two.b (sym c.node.ensures ∙ c.in-Some-Two.is ∙ ap Some c.in-Some-Two.field-0-is) first _ c.rest_of_two.result c.value_of-first-in-Some-Two.ensures.value c.rest_of_two.ensures
    (c.value_of.ensures.value ∙ ap (λ see. computed (see two.b)) (same_seen c.value_of-first-in-Some-Two.ensures.same) ∙ (ap (λ q. finished m c.in-Some-Two.o c.value_of-first-in-Some-Two.result q (computed (seen_at m at ns c.in-Some-Two.b)) (Err Undef)) (sym c.in-Second.is)))

pub value_anew-returns-in-Third-clause-value : goal.value_anew-returns-in-Third-clause-value
value_anew-returns-in-Third-clause-value g t c =
    let m = g.O.Operator.meaning in
    let e = c.args.self.now in
    let at = value_at e.values.now e.constants.now in
    let ns = nodes e.store.now in
    let two = c.in-Some-Two in
    let first = c.value_of-first-in-Some-Two.result in
    two_arm m at ns c.args.i two.o two.a two.b (sym c.node.ensures ∙ c.in-Some-Two.is ∙ ap Some c.in-Some-Two.field-0-is) first _ c.rest_of_two.result c.value_of-first-in-Some-Two.ensures.value c.rest_of_two.ensures
    ((ap (λ q. finished m c.in-Some-Two.o c.value_of-first-in-Some-Two.result q (computed (seen_at m at ns c.in-Some-Two.b)) (Err Undef)) (sym c.in-Third.is)))

pub value_anew-returns-in-Both-clause-value : goal.value_anew-returns-in-Both-clause-value
value_anew-returns-in-Both-clause-value g t c =
    let m = g.O.Operator.meaning in
    let e = c.args.self.now in
    let at = value_at e.values.now e.constants.now in
    let ns = nodes e.store.now in
    let two = c.in-Some-Two in
    let first = c.value_of-first-in-Some-Two.result in
    two_arm m at ns c.args.i two.o two.a two.b (sym c.node.ensures ∙ c.in-Some-Two.is ∙ ap Some c.in-Some-Two.field-0-is) first _ c.rest_of_two.result c.value_of-first-in-Some-Two.ensures.value c.rest_of_two.ensures
    (c.apply_both.ensures ∙ ap (both_answer m two.o first) (c.value_of-second.ensures.value ∙ ap (λ see. computed (see two.b)) (same_seen c.value_of-first-in-Some-Two.ensures.same)) ∙ (ap (λ q. finished m c.in-Some-Two.o c.value_of-first-in-Some-Two.result q (computed (seen_at m at ns c.in-Some-Two.b)) (Err Undef)) (sym c.in-Both.is)))

pub value_anew-returns-in-Nothing-rest_of_three-clause-value : goal.value_anew-returns-in-Nothing-rest_of_three-clause-value
value_anew-returns-in-Nothing-rest_of_three-clause-value g t c =
    let m = g.O.Operator.meaning in
    let e = c.args.self.now in
    let at = value_at e.values.now e.constants.now in
    let ns = nodes e.store.now in
    let three = c.in-Some-Three in
    let first = c.value_of-first-in-Some-Three.result in
    three_arm m at ns c.args.i three.o three.a three.b three.c (sym c.node.ensures ∙ c.in-Some-Three.is ∙ ap Some c.in-Some-Three.field-0-is) first _ c.rest_of_three.result c.value_of-first-in-Some-Three.ensures.value c.rest_of_three.ensures
    ((ap (λ q. finished m c.in-Some-Three.o c.value_of-first-in-Some-Three.result q (computed (seen_at m at ns c.in-Some-Three.b)) (computed (seen_at m at ns c.in-Some-Three.c))) (sym c.in-Nothing-rest_of_three.is)))

pub value_anew-returns-in-Second-rest_of_three-clause-value : goal.value_anew-returns-in-Second-rest_of_three-clause-value
value_anew-returns-in-Second-rest_of_three-clause-value g t c =
    let m = g.O.Operator.meaning in
    let e = c.args.self.now in
    let at = value_at e.values.now e.constants.now in
    let ns = nodes e.store.now in
    let three = c.in-Some-Three in
    let first = c.value_of-first-in-Some-Three.result in
    three_arm m at ns c.args.i three.o three.a three.b three.c (sym c.node.ensures ∙ c.in-Some-Three.is ∙ ap Some c.in-Some-Three.field-0-is) first _ c.rest_of_three.result c.value_of-first-in-Some-Three.ensures.value c.rest_of_three.ensures
    (c.value_of-in-Second-rest_of_three.ensures.value ∙ ap (λ see. computed (see three.b)) (same_seen c.value_of-first-in-Some-Three.ensures.same) ∙ (ap (λ q. finished m c.in-Some-Three.o c.value_of-first-in-Some-Three.result q (computed (seen_at m at ns c.in-Some-Three.b)) (computed (seen_at m at ns c.in-Some-Three.c))) (sym c.in-Second-rest_of_three.is)))

pub value_anew-returns-in-Third-rest_of_three-clause-value : goal.value_anew-returns-in-Third-rest_of_three-clause-value
value_anew-returns-in-Third-rest_of_three-clause-value g t c =
    let m = g.O.Operator.meaning in
    let e = c.args.self.now in
    let at = value_at e.values.now e.constants.now in
    let ns = nodes e.store.now in
    let three = c.in-Some-Three in
    let first = c.value_of-first-in-Some-Three.result in
    three_arm m at ns c.args.i three.o three.a three.b three.c (sym c.node.ensures ∙ c.in-Some-Three.is ∙ ap Some c.in-Some-Three.field-0-is) first _ c.rest_of_three.result c.value_of-first-in-Some-Three.ensures.value c.rest_of_three.ensures
    (c.value_of-in-Third-rest_of_three.ensures.value ∙ ap (λ see. computed (see three.c)) (same_seen c.value_of-first-in-Some-Three.ensures.same) ∙ (ap (λ q. finished m c.in-Some-Three.o c.value_of-first-in-Some-Three.result q (computed (seen_at m at ns c.in-Some-Three.b)) (computed (seen_at m at ns c.in-Some-Three.c))) (sym c.in-Third-rest_of_three.is)))

pub value_anew-returns-in-Both-rest_of_three-clause-value : goal.value_anew-returns-in-Both-rest_of_three-clause-value
value_anew-returns-in-Both-rest_of_three-clause-value g t c =
    let m = g.O.Operator.meaning in
    let e = c.args.self.now in
    let at = value_at e.values.now e.constants.now in
    let ns = nodes e.store.now in
    let three = c.in-Some-Three in
    let first = c.value_of-first-in-Some-Three.result in
    three_arm m at ns c.args.i three.o three.a three.b three.c (sym c.node.ensures ∙ c.in-Some-Three.is ∙ ap Some c.in-Some-Three.field-0-is) first _ c.rest_of_three.result c.value_of-first-in-Some-Three.ensures.value c.rest_of_three.ensures
    (c.apply_both-in-Both-rest_of_three.ensures ∙ ap (both_answer m three.o first) (c.value_of-second-in-Both-rest_of_three.ensures.value ∙ ap (λ see. computed (see three.b)) (same_seen c.value_of-first-in-Some-Three.ensures.same)) ∙ (ap (λ q. finished m c.in-Some-Three.o c.value_of-first-in-Some-Three.result q (computed (seen_at m at ns c.in-Some-Three.b)) (computed (seen_at m at ns c.in-Some-Three.c))) (sym c.in-Both-rest_of_three.is)))
