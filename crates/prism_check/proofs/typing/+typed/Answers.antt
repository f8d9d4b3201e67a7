use Rattle.std.proofs.Common.{◌∙◌, sym, ap, ap₂}
use Rattle.op_trees.specs.Tree.{tree, One, Two, Three}
use Rattle.prism_check.specs.Typing.{type_of}
use Rattle.prism_check.proofs.Misfits.{one_is, two_is, three_is}
use Rattle.prism_check.proofs.typing.+typed.Goals as goal

pub returns-in-One-clause-best : goal.returns-in-One-clause-best
returns-in-One-clause-best t c =
    one_is (type_of c.args.names.now) c.args.place (tree c.args.e.now) c.in-One.at c.in-One.o c.args.best (tree c.deref.result.now) _ c.typed-x.result.best c.one.result.best
    (ap tree c.in-One.is ∙ ap (λ v. One c.in-One.at c.in-One.o (tree v)) (sym c.deref.ensures)) c.typed-x.ensures.ty c.typed-x.ensures.best c.one.ensures.best

pub returns-in-Two-clause-best : goal.returns-in-Two-clause-best
returns-in-Two-clause-best t c =
    two_is (type_of c.args.names.now) c.args.place (tree c.args.e.now) c.in-Two.at c.in-Two.o c.args.best (tree c.deref-in-Two.result.now) (tree c.deref-in-Two-2.result.now) _ _
    c.typed-x-in-Two.result.best c.typed-y.result.best c.two.result.best
    (ap tree c.in-Two.is ∙ ap₂ (λ v w. Two c.in-Two.at c.in-Two.o (tree v) (tree w)) (sym c.deref-in-Two.ensures) (sym c.deref-in-Two-2.ensures))
    c.typed-x-in-Two.ensures.ty c.typed-y.ensures.ty c.typed-x-in-Two.ensures.best c.typed-y.ensures.best c.two.ensures.best

pub returns-in-Three-clause-best : goal.returns-in-Three-clause-best
returns-in-Three-clause-best t c =
    three_is (type_of c.args.names.now) c.args.place (tree c.args.e.now) c.in-Three.at c.in-Three.o c.args.best (tree c.deref-in-Three.result.now)
    (tree c.deref-in-Three-2.result.now) (tree c.deref-in-Three-3.result.now) _ _ _
    c.typed-x-in-Three.result.best c.typed-y-in-Three.result.best c.typed-z.result.best c.three.result.best
    (ap tree c.in-Three.is
    ∙ ap (λ v. Three c.in-Three.at c.in-Three.o (tree v) (tree c.in-Three.b.value) (tree c.in-Three.c.value)) (sym c.deref-in-Three.ensures)
    ∙ ap₂ (λ v w. Three c.in-Three.at c.in-Three.o (tree c.deref-in-Three.result.now) (tree v) (tree w)) (sym c.deref-in-Three-2.ensures) (sym c.deref-in-Three-3.ensures))
    c.typed-x-in-Three.ensures.ty c.typed-y-in-Three.ensures.ty c.typed-z.ensures.ty
    c.typed-x-in-Three.ensures.best c.typed-y-in-Three.ensures.best c.typed-z.ensures.best c.three.ensures.best
