use Rattle.std.proofs.Common.{subst}
use Rattle.std.proofs.lemmas.Result.{IfOk-weaker}
use Rattle.std.specs.Prelude.{IfOk, IfSome}
use Rattle.expr_store.specs.Nodes.{Holds, Stands, TwoIs}
use Rattle.expr_store.specs.Views.{nodes}
use Rattle.expr_store.specs.declared.node.Node.TheVariants.{Fixed, Two}
use Rattle.op_trees.specs.Tree as T
use Rattle.expr_store.proofs.Standing.{two_folded, two_stands}
use Rattle.expr_store.proofs.store.ExprStore.put_two.Goals as goal

pub returns-in-Some-clause-stands : goal.returns-in-Some-clause-stands
returns-in-Some-clause-stands g c places at t u h_a h_b =
    let m = g.O.Operator.meaning in
    let old = nodes c.args.self.now in
    let new = nodes c.put_node.new.self in
    let a = c.in_ok-first.field-0.number in
    let b = c.in_ok-second.field-0.number in
    let f = subst (λ r. IfSome r (TwoIs m old c.args.o a b)) c.in-Some.is c.folded_two.ensures in
    IfOk-weaker c.put_node.result (λ id. Holds new id.number (Fixed c.in-Some.v)) (λ id. Stands m places new id.number (T.Two at c.args.o t u))
    (λ id k. two_folded m places old new id.number c.args.o a b at t u c.in-Some.v f c.put_node.ensures.grows k
    (subst (λ r. IfOk r (λ x. Stands m places old x.number t)) c.in_ok-first.was h_a)
    (subst (λ r. IfOk r (λ x. Stands m places old x.number u)) c.in_ok-second.was h_b))
    c.put_node.ensures.holds

pub returns-in-None-clause-stands : goal.returns-in-None-clause-stands
returns-in-None-clause-stands g c places at t u h_a h_b =
    let m = g.O.Operator.meaning in
    let old = nodes c.args.self.now in
    let new = nodes c.put_node-in-None.new.self in
    let a = c.in_ok-first.field-0.number in
    let b = c.in_ok-second.field-0.number in
    IfOk-weaker c.put_node-in-None.result (λ id. Holds new id.number (Two c.args.o a b)) (λ id. Stands m places new id.number (T.Two at c.args.o t u))
    (λ id k. two_stands m places old new id.number c.args.o a b at t u c.put_node-in-None.ensures.grows k
    (subst (λ r. IfOk r (λ x. Stands m places old x.number t)) c.in_ok-first.was h_a)
    (subst (λ r. IfOk r (λ x. Stands m places old x.number u)) c.in_ok-second.was h_b))
    c.put_node-in-None.ensures.holds
