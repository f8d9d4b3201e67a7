use Rattle.std.proofs.Common.{sym, ap, ◌∙◌}
use Rattle.op_trees.specs.Tree.{tree}
use Rattle.op_trees.specs.Meaning.{answer, narrowed}
use Rattle.op_trees.specs.declared.tree.Next.TheVariants.{Second, Third}
use Rattle.op_trees.proofs.Answered.{arm_truth, arm_number, arm_name, arm_one, arm_two, arm_two_strict, arm_two_err, arm_three, arm_three_err, other_aside, others_aside}
use Rattle.op_trees.proofs.evaluation.+eval.Goals as goal

pub returns-in-Truth : goal.returns-in-Truth
returns-in-Truth g t c =
    arm_truth g.O.Operator.meaning (g.N.Names.values c.args.names.now) (tree c.args.e.now) c.in-Truth.field-0 c.in-Truth.b (ap tree c.in-Truth.is)

pub returns-in-Number : goal.returns-in-Number
returns-in-Number g t c =
    arm_number g.O.Operator.meaning (g.N.Names.values c.args.names.now) (tree c.args.e.now) c.in-Number.field-0 c.in-Number.d _
    (ap tree c.in-Number.is) c.literal.ensures

pub returns-in-Name : goal.returns-in-Name
returns-in-Name g t c =
    let env = g.N.Names.values c.args.names.now in
    arm_name g.O.Operator.meaning env (tree c.args.e.now) c.in-Name.field-0 c.in-Name.x _
    (ap tree c.in-Name.is)
    (c.held.ensures ∙ ap narrowed (c.value.ensures ∙ ap env c.as_str.ensures))

pub returns-in-One : goal.returns-in-One
returns-in-One g t c =
    let m = g.O.Operator.meaning in
    let env = g.N.Names.values c.args.names.now in
    arm_one m env (tree c.args.e.now) c.in-One.field-0 c.in-One.o (tree c.in-One.a.value) c.eval.result _
    (ap tree c.in-One.is)
    (c.eval.ensures ∙ ap (λ x. answer m (tree x) env) c.deref.ensures)
    c.answer_of_one.ensures.strict
    c.answer_of_one.ensures.lazy

pub returns-then-is_strict : goal.returns-then-is_strict
returns-then-is_strict g t c =
    let m = g.O.Operator.meaning in
    let env = g.N.Names.values c.args.names.now in
    arm_two_strict m env (tree c.args.e.now) c.in-Two.field-0 c.in-Two.o (tree c.in-Two.a.value) (tree c.in-Two.b.value) _ _ _
    (ap tree c.in-Two.is)
    (sym c.is_strict.ensures ∙ c.if-is_strict.true)
    (c.eval-first.ensures ∙ ap (λ x. answer m (tree x) env) c.deref-in-Two.ensures)
    (c.eval-then-is_strict.ensures ∙ ap (λ x. answer m (tree x) env) c.deref-then-is_strict.ensures)
    c.apply_both.ensures

pub returns-in-Err : goal.returns-in-Err
returns-in-Err g t c =
    let m = g.O.Operator.meaning in
    let env = g.N.Names.values c.args.names.now in
    arm_two_err m env (tree c.args.e.now) c.in-Two.field-0 c.in-Two.o (tree c.in-Two.a.value) (tree c.in-Two.b.value) c.in-Err.f
    (ap tree c.in-Two.is)
    (sym c.is_strict.ensures ∙ c.if-is_strict.false)
    (sym (c.eval-first.ensures ∙ ap (λ x. answer m (tree x) env) c.deref-in-Two.ensures) ∙ c.in-Err.is)

pub returns-in-Second : goal.returns-in-Second
returns-in-Second g t c =
    let m = g.O.Operator.meaning in
    let env = g.N.Names.values c.args.names.now in
    arm_two m env (tree c.args.e.now) c.in-Two.field-0 c.in-Two.o (tree c.in-Two.a.value) (tree c.in-Two.b.value) c.in-Ok.x _ Second
    (ap tree c.in-Two.is)
    (sym c.is_strict.ensures ∙ c.if-is_strict.false)
    (sym (c.eval-first.ensures ∙ ap (λ x. answer m (tree x) env) c.deref-in-Two.ensures) ∙ c.in-Ok.is)
    (sym c.after_first.ensures ∙ c.in-Second.is)
    (c.eval-in-Second.ensures ∙ ap (λ x. answer m (tree x) env) c.deref-in-Second.ensures)

pub returns-in_default : goal.returns-in_default
returns-in_default g t c =
    let m = g.O.Operator.meaning in
    let env = g.N.Names.values c.args.names.now in
    let n = c.after_first.result in
    arm_two m env (tree c.args.e.now) c.in-Two.field-0 c.in-Two.o (tree c.in-Two.a.value) (tree c.in-Two.b.value) c.in-Ok.x _ n
    (ap tree c.in-Two.is)
    (sym c.is_strict.ensures ∙ c.if-is_strict.false)
    (sym (c.eval-first.ensures ∙ ap (λ x. answer m (tree x) env) c.deref-in-Two.ensures) ∙ c.in-Ok.is)
    (sym c.after_first.ensures)
    (c.settled.ensures ∙ other_aside n (answer m (tree c.in-Two.b.value) env) c.in_default.not-Second)

pub returns-in-Err-eval : goal.returns-in-Err-eval
returns-in-Err-eval g t c =
    let m = g.O.Operator.meaning in
    let env = g.N.Names.values c.args.names.now in
    arm_three_err m env (tree c.args.e.now) c.in-Three.field-0 c.in-Three.o (tree c.in-Three.a.value) (tree c.in-Three.b.value) (tree c.in-Three.c.value) c.in-Err-eval.f
    (ap tree c.in-Three.is)
    (sym (c.eval-in-Three.ensures ∙ ap (λ x. answer m (tree x) env) c.deref-in-Three.ensures) ∙ c.in-Err-eval.is)

pub returns-in-Second-after_first : goal.returns-in-Second-after_first
returns-in-Second-after_first g t c =
    let m = g.O.Operator.meaning in
    let env = g.N.Names.values c.args.names.now in
    arm_three m env (tree c.args.e.now) c.in-Three.field-0 c.in-Three.o (tree c.in-Three.a.value) (tree c.in-Three.b.value) (tree c.in-Three.c.value) c.in-Ok-eval.x _ Second
    (ap tree c.in-Three.is)
    (sym (c.eval-in-Three.ensures ∙ ap (λ x. answer m (tree x) env) c.deref-in-Three.ensures) ∙ c.in-Ok-eval.is)
    (sym c.after_first-in-Ok-eval.ensures ∙ c.in-Second-after_first.is)
    (c.eval-in-Second-after_first.ensures ∙ ap (λ x. answer m (tree x) env) c.deref-in-Second-after_first.ensures)

pub returns-in-Third : goal.returns-in-Third
returns-in-Third g t c =
    let m = g.O.Operator.meaning in
    let env = g.N.Names.values c.args.names.now in
    arm_three m env (tree c.args.e.now) c.in-Three.field-0 c.in-Three.o (tree c.in-Three.a.value) (tree c.in-Three.b.value) (tree c.in-Three.c.value) c.in-Ok-eval.x _ Third
    (ap tree c.in-Three.is)
    (sym (c.eval-in-Three.ensures ∙ ap (λ x. answer m (tree x) env) c.deref-in-Three.ensures) ∙ c.in-Ok-eval.is)
    (sym c.after_first-in-Ok-eval.ensures ∙ c.in-Third.is)
    (c.eval-in-Third.ensures ∙ ap (λ x. answer m (tree x) env) c.deref-in-Third.ensures)

pub returns-in_default-after_first : goal.returns-in_default-after_first
returns-in_default-after_first g t c =
    let m = g.O.Operator.meaning in
    let env = g.N.Names.values c.args.names.now in
    let n = c.after_first-in-Ok-eval.result in
    arm_three m env (tree c.args.e.now) c.in-Three.field-0 c.in-Three.o (tree c.in-Three.a.value) (tree c.in-Three.b.value) (tree c.in-Three.c.value) c.in-Ok-eval.x _ n
    (ap tree c.in-Three.is)
    (sym (c.eval-in-Three.ensures ∙ ap (λ x. answer m (tree x) env) c.deref-in-Three.ensures) ∙ c.in-Ok-eval.is)
    (sym c.after_first-in-Ok-eval.ensures)
    (c.settled-in_default-after_first.ensures
    ∙ others_aside n (answer m (tree c.in-Three.b.value) env) (answer m (tree c.in-Three.c.value) env) c.in_default-after_first.not-Second c.in_default-after_first.not-Third)
