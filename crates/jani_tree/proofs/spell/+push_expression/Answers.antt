use Rattle.std.proofs.Common.{◌∷◌, ◌++◌, refl, sym, ap, subst, ◌∙◌}
use Rattle.std.specs.Prelude.{codes}
use Rattle.op_trees.specs.Tree.{tree}
use Rattle.jani_tree.specs.Canonical.{expr_node}
use Rattle.jani_tree.specs.Text.{KeptNode, node_text}
use Rattle.jani_tree.proofs.Pieces.{spelt, ends, one_pieces, one_text, two_pieces, two_text, three_pieces, three_text}
use Rattle.jani_tree.proofs.Kept.{written, kept_one, kept_two, kept_three}
use Rattle.jani_tree.proofs.spell.+push_expression.Goals as goal

pub returns-in_ok-push_expression-in-One-clause-kept : goal.returns-in_ok-push_expression-in-One-clause-kept
returns-in_ok-push_expression-in-One-clause-kept t c =
    written c.extend_from_slice-in-One.result
    (subst (λ e. KeptNode (expr_node (tree e))) (sym c.in-One.is)
    (kept_one c.in-One.field-0 c.in-One.op (tree c.in-One.a.value) c.in_ok-push_operator-in-One.ensures.utf8 (subst (λ e. KeptNode (expr_node (tree e))) c.deref.ensures c.in_ok-push_expression-in-One.ensures.kept)))

pub returns-in_ok-push_expression-in-Two-2-clause-kept : goal.returns-in_ok-push_expression-in-Two-2-clause-kept
returns-in_ok-push_expression-in-Two-2-clause-kept t c =
    written c.extend_from_slice-in-Two.result
    (subst (λ e. KeptNode (expr_node (tree e))) (sym c.in-Two.is)
    (kept_two c.in-Two.field-0 c.in-Two.op (tree c.in-Two.a.value) (tree c.in-Two.b.value) c.in_ok-push_operator-in-Two.ensures.utf8
    (subst (λ e. KeptNode (expr_node (tree e))) c.deref-in-Two.ensures c.in_ok-push_expression-in-Two.ensures.kept) (subst (λ e. KeptNode (expr_node (tree e))) c.deref-in-Two-2.ensures c.in_ok-push_expression-in-Two-2.ensures.kept)))

pub returns-in_ok-push_expression-in-Three-3-clause-text : goal.returns-in_ok-push_expression-in-Three-3-clause-text
returns-in_ok-push_expression-in-Three-3-clause-text t c =
    ends c.extend_from_slice-in-Three.result _ c.push_expression-in-Three-3.new.out.items (codes "}") c.extend_from_slice-in-Three.ensures.items
    (λ h. spelt c.args.out.now.items (c.args.lead.now ∷ three_pieces c.in-Three.op (tree c.in-Three.a.value) (tree c.in-Three.b.value) (tree c.in-Three.c.value)) _ _
    (ap (λ e. c.args.lead.now ++ node_text (expr_node (tree e))) c.in-Three.is
    ∙ ap (λ u. c.args.lead.now ++ u) (three_text c.in-Three.field-0 c.in-Three.op (tree c.in-Three.a.value) (tree c.in-Three.b.value) (tree c.in-Three.c.value))) (
      _,
      c.in_ok-extend_from_slice.ensures.items,
      (
        _,
        c.in_ok-push_operator-in-Three.ensures.text,
        (
          _,
          (c.in_ok-push_expression-in-Three.ensures.text ∙ ap (λ e. c.push_operator-in-Three.new.out.items ++ (codes ",\"if\":" ++ node_text (expr_node (tree e)))) c.deref-in-Three.ensures),
          (_, (c.in_ok-push_expression-in-Three-2.ensures.text ∙ ap (λ e. c.push_expression-in-Three.new.out.items ++ (codes ",\"then\":" ++ node_text (expr_node (tree e)))) c.deref-in-Three-2.ensures), (_, (c.in_ok-push_expression-in-Three-3.ensures.text ∙ ap (λ e. c.push_expression-in-Three-2.new.out.items ++ (codes ",\"else\":" ++ node_text (expr_node (tree e)))) c.deref-in-Three-3.ensures), (_, h, refl))),
        ),
      ),
    ))

pub returns-in_ok-push_expression-in-Three-3-clause-kept : goal.returns-in_ok-push_expression-in-Three-3-clause-kept
returns-in_ok-push_expression-in-Three-3-clause-kept t c =
    written c.extend_from_slice-in-Three.result
    (subst (λ e. KeptNode (expr_node (tree e))) (sym c.in-Three.is)
    (kept_three c.in-Three.field-0 c.in-Three.op (tree c.in-Three.a.value) (tree c.in-Three.b.value) (tree c.in-Three.c.value) c.in_ok-push_operator-in-Three.ensures.utf8
    (subst (λ e. KeptNode (expr_node (tree e))) c.deref-in-Three.ensures c.in_ok-push_expression-in-Three.ensures.kept) (subst (λ e. KeptNode (expr_node (tree e))) c.deref-in-Three-2.ensures c.in_ok-push_expression-in-Three-2.ensures.kept) (subst (λ e. KeptNode (expr_node (tree e))) c.deref-in-Three-3.ensures c.in_ok-push_expression-in-Three-3.ensures.kept)))

pub returns-in_ok-push_expression-in-One-clause-text : goal.returns-in_ok-push_expression-in-One-clause-text
returns-in_ok-push_expression-in-One-clause-text t c =
    ends c.extend_from_slice-in-One.result _ c.push_expression.new.out.items (codes "}") c.extend_from_slice-in-One.ensures.items
    (λ h. spelt c.args.out.now.items (c.args.lead.now ∷ one_pieces c.in-One.op (tree c.in-One.a.value)) _ _
    (ap (λ e. c.args.lead.now ++ node_text (expr_node (tree e))) c.in-One.is
    ∙ ap (λ u. c.args.lead.now ++ u) (one_text c.in-One.field-0 c.in-One.op (tree c.in-One.a.value)))
    (_, c.in_ok-extend_from_slice.ensures.items, (_, c.in_ok-push_operator-in-One.ensures.text, (_, (c.in_ok-push_expression-in-One.ensures.text ∙ ap (λ e. c.push_operator.new.out.items ++ (codes ",\"exp\":" ++ node_text (expr_node (tree e)))) c.deref.ensures), (_, h, refl)))))

pub returns-in_ok-push_expression-in-Two-2-clause-text : goal.returns-in_ok-push_expression-in-Two-2-clause-text
returns-in_ok-push_expression-in-Two-2-clause-text t c =
    ends c.extend_from_slice-in-Two.result _ c.push_expression-in-Two-2.new.out.items (codes "}") c.extend_from_slice-in-Two.ensures.items
    (λ h. spelt c.args.out.now.items (c.args.lead.now ∷ two_pieces c.in-Two.op (tree c.in-Two.a.value) (tree c.in-Two.b.value)) _ _
    (ap (λ e. c.args.lead.now ++ node_text (expr_node (tree e))) c.in-Two.is
    ∙ ap (λ u. c.args.lead.now ++ u) (two_text c.in-Two.field-0 c.in-Two.op (tree c.in-Two.a.value) (tree c.in-Two.b.value)))
    (_, c.in_ok-extend_from_slice.ensures.items, (_, c.in_ok-push_operator-in-Two.ensures.text, (_, (c.in_ok-push_expression-in-Two.ensures.text ∙ ap (λ e. c.push_operator-in-Two.new.out.items ++ (codes ",\"left\":" ++ node_text (expr_node (tree e)))) c.deref-in-Two.ensures), (_, (c.in_ok-push_expression-in-Two-2.ensures.text ∙ ap (λ e. c.push_expression-in-Two.new.out.items ++ (codes ",\"right\":" ++ node_text (expr_node (tree e)))) c.deref-in-Two-2.ensures), (_, h, refl))))))
