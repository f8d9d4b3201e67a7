use Rattle.std.proofs.Common.{subst}
use Rattle.std.proofs.lemmas.Result.{IfOk-weaker}
use Rattle.std.specs.Prelude.{IfOk}
use Rattle.expr_store.specs.Nodes.{Holds, Stands}
use Rattle.expr_store.specs.Views.{nodes}
use Rattle.expr_store.specs.declared.node.Node.TheVariants.{Three}
use Rattle.op_trees.specs.Tree as T
use Rattle.expr_store.proofs.Standing.{three_stands}
use Rattle.expr_store.proofs.store.ExprStore.put_three.Goals as goal

pub returns-clause-stands : goal.returns-clause-stands
returns-clause-stands g c places at t u v h_a h_b h_c =
    let m = g.O.Operator.meaning in
    let old = nodes c.args.self.now in
    let new = nodes c.put_node.new.self in
    let a = c.in_ok-a.field-0.number in
    let b = c.in_ok-b.field-0.number in
    let d = c.in_ok-c.field-0.number in
    IfOk-weaker c.put_node.result (λ id. Holds new id.number (Three c.args.o a b d)) (λ id. Stands m places new id.number (T.Three at c.args.o t u v))
    (λ id k. three_stands m places old new id.number c.args.o a b d at t u v c.put_node.ensures.grows k
    (subst (λ r. IfOk r (λ x. Stands m places old x.number t)) c.in_ok-a.was h_a)
    (subst (λ r. IfOk r (λ x. Stands m places old x.number u)) c.in_ok-b.was h_b)
    (subst (λ r. IfOk r (λ x. Stands m places old x.number v)) c.in_ok-c.was h_c))
    c.put_node.ensures.holds
