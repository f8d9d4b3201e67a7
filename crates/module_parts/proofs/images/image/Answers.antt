use Rattle.std.proofs.Common.{◌≡◌, ◌∙◌, ap₂}
use Rattle.std.specs.Prelude.{ℕ, Option, unwrap_or, []}
use Rattle.std.specs.Option.{option_or}
use Rattle.op_trees.specs.Tree.{tree}
use Rattle.op_trees.specs.declared.tree.Expr.{Expr}
use Rattle.op_trees.proofs.Made.{if_ok}
use Rattle.prism_tree.specs.declared.operator.PrismOp.{PrismOp}
use Rattle.name_table.specs.PrismAsks.{value_name, name_at_some}
use Rattle.jani_images.specs.Image.{image}
use Rattle.jani_images.proofs.Mapped.{same_image}
use Rattle.module_parts.specs.Code.{file_in, names_in, value_in}
use Rattle.module_parts.proofs.images.image.Goals as goal

pub returns : goal.returns
returns c =
    let n = c.args.names.now in
    let e = tree c.args.e.now in
    if_ok (λ (r : Expr PrismOp). tree r ≡ image (value_in n c.args.element) e) (λ r. tree r ≡ image (value_name (file_in n) (names_in n) c.args.element) e)
    (λ r h.
    h ∙ same_image (value_in n c.args.element) (value_name (file_in n) (names_in n) c.args.element)
    (λ x. ap₂ (λ (v c : Option ℕ). unwrap_or (option_or (name_at_some n.entries.variables.now v) (name_at_some n.entries.constants.now c)) [])
    (c.requires.lasting_are c.args.element x) (c.requires.constants_are x)) e) c.image.result c.image.ensures
