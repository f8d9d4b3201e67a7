use Rattle.std.proofs.Common.{◌≡◌, sym, ap, ap₂, subst, ◌∙◌}
use Rattle.std.specs.Prelude.{OnOk}
use Rattle.op_trees.specs.Tree.{tree}
use Rattle.jani_table.specs.declared.key.Key.TheVariants as K
use Rattle.jani_table.specs.Node.{Node, Fields, fields, object}
use Rattle.jani_table.specs.NodeLaws.{node_object}
use Rattle.jani_tree.specs.Canonical.{expr_node, with_entry}
use Rattle.jani_tree.proofs.write.+expression_json.Goals as goal

pub expression_json-returns-in_ok-add_expression-in-One : goal.expression_json-returns-in_ok-add_expression-in-One
expression_json-returns-in_ok-add_expression-in-One t c =
    node_object c.in-One.at c.add_expression.new.members 0
    ∙ (ap (λ (fs : Fields). object c.in-One.at fs 0)
    (c.in_ok-add_expression-in-One.ensures
    ∙ ap₂ (λ (fs : Fields) (a : Node). with_entry fs K.Exp a) c.in_ok-members-in-One.ensures (ap (λ e. expr_node (tree e)) c.deref.ensures))
    ∙ ap (λ e. expr_node (tree e)) (sym c.in-One.is))

pub expression_json-returns-in_ok-add_two-in-Two : goal.expression_json-returns-in_ok-add_two-in-Two
expression_json-returns-in_ok-add_two-in-Two t c =
    node_object c.in-Two.at c.add_two.new.members 0
    ∙ (ap (λ (fs : Fields). object c.in-Two.at fs 0)
    (c.in_ok-add_two-in-Two.ensures
    ∙ ap₂ (λ (fs : Fields) (b : Node). with_entry fs K.Right b)
    (ap₂ (λ (fs : Fields) (a : Node). with_entry fs K.Left a) c.in_ok-members-in-Two.ensures (ap (λ e. expr_node (tree e)) c.deref-in-Two.ensures))
    (ap (λ e. expr_node (tree e)) c.deref-in-Two-2.ensures))
    ∙ ap (λ e. expr_node (tree e)) (sym c.in-Two.is))

pub expression_json-returns-in_ok-add_three-in-Three : goal.expression_json-returns-in_ok-add_three-in-Three
expression_json-returns-in_ok-add_three-in-Three t c =
    node_object c.in-Three.at c.add_three.new.members 0
    ∙ (ap (λ (fs : Fields). object c.in-Three.at fs 0)
    (c.in_ok-add_three-in-Three.ensures
    ∙ ap₂ (λ (fs : Fields) (d : Node). with_entry fs K.Else d)
    (ap₂ (λ (fs : Fields) (b : Node). with_entry fs K.Then b)
    (ap₂ (λ (fs : Fields) (a : Node). with_entry fs K.If a) c.in_ok-members-in-Three.ensures (ap (λ e. expr_node (tree e)) c.deref-in-Three.ensures))
    (ap (λ e. expr_node (tree e)) c.deref-in-Three-2.ensures))
    (ap (λ e. expr_node (tree e)) c.deref-in-Three-3.ensures))
    ∙ ap (λ e. expr_node (tree e)) (sym c.in-Three.is))

pub add_two-returns : goal.add_two-returns
add_two-returns t c =
    subst (λ (fs : Fields). OnOk c.add_expression-2.result (fields c.add_expression-2.new.members ≡ with_entry fs K.Right (expr_node (tree c.args.right.now))))
    c.in_ok-add_expression.ensures c.add_expression-2.ensures

pub add_three-returns : goal.add_three-returns
add_three-returns t c =
    subst (λ (fs : Fields). OnOk c.add_expression-3.result (fields c.add_expression-3.new.members ≡ with_entry fs K.Else (expr_node (tree c.args.no.now))))
    (c.in_ok-add_expression-2.ensures ∙ ap (λ (fs : Fields). with_entry fs K.Then (expr_node (tree c.args.yes.now))) c.in_ok-add_expression.ensures)
    c.add_expression-3.ensures
