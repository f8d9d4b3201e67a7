-- The image of an expression is made node by node; under new names that are the same, name by name, it is the same.
use Rattle.std.proofs.Common.{◌≡◌, refl, ap, ap₂}
use Rattle.op_trees.specs.Tree.{Truth, Number, Name as At, One, Two, Three}
use Rattle.op_trees.specs.Walk.{walked}
use Rattle.process_core.specs.Ready.{Name}
use Rattle.prism_tree.specs.Syntax as prism
use Rattle.jani_tree.specs.Syntax.{Expression}
use Rattle.jani_images.specs.Image.{image, prism_op}
use Rattle.jani_images.specs.Nodes.{image_node}

pub image_mapped : (new : Name → Name) (e : Expression) → walked (image_node new) e ≡ image new e
image_mapped new (Truth at b) = refl
image_mapped new (Number at d) = refl
image_mapped new (At at x) = refl
image_mapped new (One at o a) = ap (One at (prism_op o)) (image_mapped new a)
image_mapped new (Two at o a b) = ap₂ (Two at (prism_op o)) (image_mapped new a) (image_mapped new b)
image_mapped new (Three at o a b c) =
    ap₂ {B = prism.Expression → prism.Expression} (λ x g. g x) (image_mapped new a) (ap₂ (λ y z x. Three at (prism_op o) x y z) (image_mapped new b) (image_mapped new c))

pub same_image : (old new : Name → Name) → ((x : Name) → old x ≡ new x) → (e : Expression) → image old e ≡ image new e
same_image old new h (Truth at b) = refl
same_image old new h (Number at d) = refl
same_image old new h (At at x) = ap (At at) (h x)
same_image old new h (One at o a) = ap (One at (prism_op o)) (same_image old new h a)
same_image old new h (Two at o a b) = ap₂ (Two at (prism_op o)) (same_image old new h a) (same_image old new h b)
same_image old new h (Three at o a b c) =
    ap₂ {B = prism.Expression → prism.Expression} (λ x g. g x) (same_image old new h a) (ap₂ (λ y z x. Three at (prism_op o) x y z) (same_image old new h b) (same_image old new h c))
