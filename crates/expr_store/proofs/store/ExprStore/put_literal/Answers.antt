use Rattle.std.proofs.Common.{sym, ap, ◌∙◌, Some}
use Rattle.std.proofs.lemmas.Result.{IfOk-weaker}
use Rattle.op_trees.specs.Seen.{known}
use Rattle.op_trees.specs.Tree as T
use Rattle.expr_store.specs.Nodes.{Holds, Stands}
use Rattle.expr_store.specs.Views.{nodes}
use Rattle.expr_store.specs.declared.node.Node.TheVariants.{Fixed, Number}
use Rattle.expr_store.proofs.Standing.{fixed_stands, literal_is, number_stands}
use Rattle.expr_store.proofs.store.ExprStore.put_literal.Goals as goal

pub returns-in-Ok-clause-stands : goal.returns-in-Ok-clause-stands
returns-in-Ok-clause-stands g c places at =
    let m = g.O.Operator.meaning in
    let new = nodes c.put_node.new.self in
    IfOk-weaker c.put_node.result (λ id. Holds new id.number (Fixed c.in-Ok.v)) (λ id. Stands m places new id.number (T.Number at c.args.d))
    (λ id k. fixed_stands m places new new id.number (T.Number at c.args.d) c.in-Ok.v (λ env. ap (λ v. known (Some v)) (sym (literal_is _ c.in-Ok.v (sym c.literal.ensures ∙ c.in-Ok.is)))) k)
    c.put_node.ensures.holds

pub returns-in-Err-clause-stands : goal.returns-in-Err-clause-stands
returns-in-Err-clause-stands g c places at =
    let m = g.O.Operator.meaning in
    let new = nodes c.put_node-in-Err.new.self in
    IfOk-weaker c.put_node-in-Err.result (λ id. Holds new id.number (Number c.args.d)) (λ id. Stands m places new id.number (T.Number at c.args.d))
    (λ id k. number_stands m places new new id.number at c.args.d k)
    c.put_node-in-Err.ensures.holds
