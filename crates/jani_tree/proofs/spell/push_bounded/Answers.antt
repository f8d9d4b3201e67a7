use Rattle.std.proofs.Common.{refl}
use Rattle.std.specs.Prelude.{codes}
use Rattle.op_trees.specs.Tree.{tree}
use Rattle.jani_tree.proofs.Pieces.{spelt, ends, bounded_pieces, bounded_text}
use Rattle.jani_tree.proofs.Kept.{written, kept_bounds}
use Rattle.jani_tree.proofs.spell.push_bounded.Goals as goal

pub returns-clause-text : goal.returns-clause-text
returns-clause-text c =
    ends c.extend_from_slice.result _ c.push_expression-2.new.out.items (codes "}") c.extend_from_slice.ensures.items
    (λ h. spelt c.args.out.now.items (bounded_pieces (tree c.args.low.now) (tree c.args.high.now)) _ _ (bounded_text (tree c.args.low.now) (tree c.args.high.now))
    (_, c.in_ok-push_expression.ensures.text, (_, c.in_ok-push_expression-2.ensures.text, (_, h, refl))))

pub returns-clause-kept : goal.returns-clause-kept
returns-clause-kept c =
    written c.extend_from_slice.result (kept_bounds 0 (tree c.args.low.now) (tree c.args.high.now) c.in_ok-push_expression.ensures.kept c.in_ok-push_expression-2.ensures.kept)
