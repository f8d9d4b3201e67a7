use Rattle.std.proofs.Common.{subst}
use Rattle.std.proofs.lemmas.Option.{IfSome_then}
use Rattle.std.specs.Prelude.{IfSome}
use Rattle.expr_store.specs.Nodes.{Holds}
use Rattle.expr_store.specs.Views.{nodes}
use Rattle.expr_store.specs.declared.node.Node.TheVariants.{Fixed}
use Rattle.expr_store.proofs.Standing.{one_is}
use Rattle.expr_store.proofs.store.ExprStore.folded_one.Goals as goal

pub returns-in-Some : goal.returns-in-Some
returns-in-Some g c =
    let m = g.O.Operator.meaning in
    let ns = nodes c.args.self.now in
    let h = subst (λ r. IfSome r (λ v. Holds ns c.args.a (Fixed v))) c.in-Some.is c.fixed.ensures in
    IfSome_then c.value_of_one.result c.value_of_one.ensures (λ v e. one_is m ns c.args.o c.args.a c.in-Some.x v h e)
