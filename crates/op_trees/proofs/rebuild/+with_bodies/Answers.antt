use Rattle.std.proofs.Common.{◌≡◌, sym, subst, ap, ℕ, List}
use Rattle.std.specs.Prelude.{IfOk}
use Rattle.op_trees.specs.declared.tree.Expr.{Expr}
use Rattle.op_trees.specs.Tree.{tree, replaced, substituted, Name, One, Two, Three}
use Rattle.op_trees.proofs.Made.{over_one, over_two, over_three}
use Rattle.op_trees.proofs.rebuild.+with_bodies.Goals as goal

pub returns-in-Truth : goal.returns-in-Truth
returns-in-Truth g t c =
    let bodies = g.B.Bodies.bodies c.args.bodies.now in
    sym (ap (λ (e : Expr _). substituted bodies (tree e)) c.in-Truth.is)

pub returns-in-Number : goal.returns-in-Number
returns-in-Number g t c =
    let bodies = g.B.Bodies.bodies c.args.bodies.now in
    sym (ap (λ (e : Expr _). substituted bodies (tree e)) c.in-Number.is)

pub returns-in-Name : goal.returns-in-Name
returns-in-Name g t c =
    let bodies = g.B.Bodies.bodies c.args.bodies.now in
    subst (λ (e : Expr _). IfOk c.body_or_name.result (λ v. tree v ≡ substituted bodies (tree e))) (sym c.in-Name.is)
    (subst (λ (x : List ℕ). IfOk c.body_or_name.result (λ v. tree v ≡ replaced (Name c.in-Name.at x) (bodies x))) c.as_str.ensures c.body_or_name.ensures)

pub returns-in-One : goal.returns-in-One
returns-in-One g t c =
    let bodies = g.B.Bodies.bodies c.args.bodies.now in
    subst (λ (e : Expr _). IfOk c.one.result (λ v. tree v ≡ substituted bodies (tree e))) (sym c.in-One.is)
    (over_one tree tree (One c.in-One.at c.in-One.o) _ _ (substituted bodies (tree c.in-One.a.value)) c.one.ensures
    (subst (λ (x : Expr _). IfOk c.with_bodies.result (λ v. tree v ≡ substituted bodies (tree x))) c.deref.ensures c.with_bodies.ensures))

pub returns-in-Two : goal.returns-in-Two
returns-in-Two g t c =
    let bodies = g.B.Bodies.bodies c.args.bodies.now in
    subst (λ (e : Expr _). IfOk c.two.result (λ v. tree v ≡ substituted bodies (tree e))) (sym c.in-Two.is)
    (over_two tree tree (Two c.in-Two.at c.in-Two.o) _ _ _ (substituted bodies (tree c.in-Two.a.value)) (substituted bodies (tree c.in-Two.b.value)) c.two.ensures
    (subst (λ (x : Expr _). IfOk c.with_bodies-in-Two.result (λ v. tree v ≡ substituted bodies (tree x))) c.deref-in-Two.ensures c.with_bodies-in-Two.ensures)
    (subst (λ (x : Expr _). IfOk c.with_bodies-in-Two-2.result (λ v. tree v ≡ substituted bodies (tree x))) c.deref-in-Two-2.ensures c.with_bodies-in-Two-2.ensures))

pub returns-in-Three : goal.returns-in-Three
returns-in-Three g t c =
    let bodies = g.B.Bodies.bodies c.args.bodies.now in
    subst (λ (e : Expr _). IfOk c.three.result (λ v. tree v ≡ substituted bodies (tree e))) (sym c.in-Three.is)
    (over_three tree tree (Three c.in-Three.at c.in-Three.o) _ _ _ _ (substituted bodies (tree c.in-Three.a.value)) (substituted bodies (tree c.in-Three.b.value)) (substituted bodies (tree c.in-Three.c.value)) c.three.ensures
    (subst (λ (x : Expr _). IfOk c.with_bodies-in-Three.result (λ v. tree v ≡ substituted bodies (tree x))) c.deref-in-Three.ensures c.with_bodies-in-Three.ensures)
    (subst (λ (x : Expr _). IfOk c.with_bodies-in-Three-2.result (λ v. tree v ≡ substituted bodies (tree x))) c.deref-in-Three-2.ensures c.with_bodies-in-Three-2.ensures)
    (subst (λ (x : Expr _). IfOk c.with_bodies-in-Three-3.result (λ v. tree v ≡ substituted bodies (tree x))) c.deref-in-Three-3.ensures c.with_bodies-in-Three-3.ensures))
