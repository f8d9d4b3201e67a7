use Rattle.std.proofs.Common.{subst}
use Rattle.std.proofs.lemmas.Result.{IfOk-weaker}
use Rattle.std.specs.Prelude.{IfOk, IfSome}
use Rattle.expr_store.specs.Nodes.{Holds, OneIs, Stands}
use Rattle.expr_store.specs.Views.{nodes}
use Rattle.expr_store.specs.declared.node.Node.TheVariants.{Fixed, One}
use Rattle.op_trees.specs.Tree as T
use Rattle.expr_store.proofs.Standing.{one_folded, one_stands}
use Rattle.expr_store.proofs.store.ExprStore.put_one.Goals as goal

pub returns-in-Some-clause-stands : goal.returns-in-Some-clause-stands
returns-in-Some-clause-stands g c places at t h =
    let m = g.O.Operator.meaning in
    let old = nodes c.args.self.now in
    let new = nodes c.put_node.new.self in
    let a = c.in_ok-first.field-0.number in
    let f = subst (λ r. IfSome r (OneIs m old c.args.o a)) c.in-Some.is c.folded_one.ensures in
    IfOk-weaker c.put_node.result (λ id. Holds new id.number (Fixed c.in-Some.v)) (λ id. Stands m places new id.number (T.One at c.args.o t))
    (λ id k. one_folded m places old new id.number c.args.o a at t c.in-Some.v f c.put_node.ensures.grows k (subst (λ r. IfOk r (λ x. Stands m places old x.number t)) c.in_ok-first.was h))
    c.put_node.ensures.holds

pub returns-in-None-clause-stands : goal.returns-in-None-clause-stands
returns-in-None-clause-stands g c places at t h =
    let m = g.O.Operator.meaning in
    let old = nodes c.args.self.now in
    let new = nodes c.put_node-in-None.new.self in
    let a = c.in_ok-first.field-0.number in
    IfOk-weaker c.put_node-in-None.result (λ id. Holds new id.number (One c.args.o a)) (λ id. Stands m places new id.number (T.One at c.args.o t))
    (λ id k. one_stands m places old new id.number c.args.o a at t c.put_node-in-None.ensures.grows k (subst (λ r. IfOk r (λ x. Stands m places old x.number t)) c.in_ok-first.was h))
    c.put_node-in-None.ensures.holds
