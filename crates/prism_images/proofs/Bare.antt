-- The image of an expression without its offsets is its image without offsets.
use Rattle.std.specs.Prelude.{◌≡◌, ℕ, List}
use Rattle.std.proofs.Common.{refl, ap, ap₂, ◌∙◌}
use Rattle.op_trees.specs.Tree.{Tree, Truth, Number, Name, One, Two, Three, bare}
use Rattle.prism_tree.specs.declared.operator.PrismOp.{PrismOp}
use Rattle.prism_tree.specs.declared.operator.PrismOp.TheVariants as P
use Rattle.jani_table.specs.declared.operator.JaniOp.{JaniOp}
use Rattle.prism_images.specs.Image.{jani_op, image_one, image}

one-bare : (at : ℕ) (o : PrismOp) (a : Tree JaniOp) → image_one 0 o (bare a) ≡ bare (image_one at o a)
one-bare at P.Neg a = refl
one-bare at o a = refl

pub image-bare : (new : List ℕ → List ℕ) (e : Tree PrismOp) → image new (bare e) ≡ bare (image new e)
image-bare new (Truth at b) = refl
image-bare new (Number at d) = refl
image-bare new (Name at x) = refl
image-bare new (One at o a) = ap (image_one 0 o) (image-bare new a) ∙ one-bare at o (image new a)
image-bare new (Two at o a b) = ap₂ (Two 0 (jani_op o)) (image-bare new a) (image-bare new b)
image-bare new (Three at o a b c) =
    ap₂ {B = Tree JaniOp → Tree JaniOp} (λ r k. k r) (image-bare new a) (ap₂ (λ s t r. Three 0 (jani_op o) r s t) (image-bare new b) (image-bare new c))
