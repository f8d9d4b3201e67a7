-- What holds of images.
-- (This project's own rule.)
use Rattle.std.specs.Prelude.{◌≡◌, List, ℕ}
use Rattle.op_trees.specs.Tree.{AllNames}
use Rattle.op_trees.specs.Seen.{Seen, seen}
use Rattle.prism_tree.specs.Operators.{prism_meaning}
use Rattle.jani_table.specs.Operators.{jani_meaning}
use Rattle.jani_tree.specs.Syntax.{Expression}
use Rattle.jani_tree.specs.Canonical.{HasOperands}
use Rattle.jani_images.specs.Image.{image}

-- Where each new name is seen as its old name, the image of an expression whose nodes have their operands is seen as the expression: it has
-- the same value, and is wide or not alike.
abbrev pub ImageSeenAlike : Type 0
ImageSeenAlike = (new : List ℕ → List ℕ) (e : Expression) (names env : List ℕ → Seen) →
    AllNames (λ x. env (new x) ≡ names x) e → HasOperands e → seen prism_meaning (image new e) env ≡ seen jani_meaning e names
