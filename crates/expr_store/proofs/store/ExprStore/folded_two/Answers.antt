use Rattle.std.proofs.Common.{subst}
use Rattle.std.proofs.lemmas.Option.{IfSome_then}
use Rattle.std.specs.Prelude.{IfSome}
use Rattle.expr_store.specs.Nodes.{Holds}
use Rattle.expr_store.specs.Views.{nodes}
use Rattle.expr_store.specs.declared.node.Node.TheVariants.{Fixed}
use Rattle.expr_store.proofs.Standing.{two_is}
use Rattle.expr_store.proofs.store.ExprStore.folded_two.Goals as goal

pub returns-in-Some-fixed : goal.returns-in-Some-fixed
returns-in-Some-fixed g c =
    let m = g.O.Operator.meaning in
    let ns = nodes c.args.self.now in
    let h = subst (λ r. IfSome r (λ v. Holds ns c.args.a (Fixed v))) c.in-Some.is c.fixed.ensures in
    let k = subst (λ r. IfSome r (λ v. Holds ns c.args.b (Fixed v))) c.in-Some-fixed.is c.fixed-in-Some.ensures in
    IfSome_then c.value_of_two.result c.value_of_two.ensures (λ v e. two_is m ns c.args.o c.args.a c.args.b c.in-Some.x c.in-Some-fixed.y v h k e)
