-- A walk on which nothing is noted comes to the rebuilt tree.
use Rattle.std.proofs.Common.{◌≡◌, ◌∙◌, ap, ap₂, refl}
use Rattle.op_trees.specs.Tree.{Tree, Truth, Number, Name, One, Two, Three}
use Rattle.op_trees.specs.Walk.{Node, OneNode, TwoNode, ThreeNode, walked}
use Rattle.op_trees.specs.Rebuilt.{noting}

pub unnoted : {O Q : Type 0} (rebuilt : Node O (Tree Q) → Tree Q) (t : Tree O) → (walked (noting rebuilt) t).0 ≡ walked rebuilt t
unnoted rebuilt (Truth at b) = refl
unnoted rebuilt (Number at d) = refl
unnoted rebuilt (Name at x) = refl
unnoted rebuilt (One at o a) = ap (λ x. rebuilt (OneNode at o x)) (unnoted rebuilt a)
unnoted rebuilt (Two at o a b) = ap₂ (λ x y. rebuilt (TwoNode at o x y)) (unnoted rebuilt a) (unnoted rebuilt b)
unnoted rebuilt (Three at o a b c) =
    let z = (walked (noting rebuilt) c).0 in
    ap₂ (λ x y. rebuilt (ThreeNode at o x y z)) (unnoted rebuilt a) (unnoted rebuilt b)
    ∙ ap (λ w. rebuilt (ThreeNode at o (walked rebuilt a) (walked rebuilt b) w)) (unnoted rebuilt c)
