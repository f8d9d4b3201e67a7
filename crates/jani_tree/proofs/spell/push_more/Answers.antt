use Rattle.jani_tree.specs.Text.{KeptNode, node_text}
use Rattle.jani_tree.proofs.Pieces.{more_next, more_done}
use Rattle.jani_tree.proofs.Kept.{kept_next, kept_done}
use Rattle.jani_tree.proofs.spell.push_more.Goals as goal

pub items-preserved : goal.items-preserved
items-preserved g c = (
  more_next (λ x. node_text (g.T.Shown.shown (g.T.Shown.seen x))) c.args.trees.now c.x-item.result c.items.x-index _ _ _ _
      c.items-test.true c.x-item.is c.in_ok-extend_from_slice.ensures.items c.in_ok-push.ensures.text c.items.invariant.0,
  kept_next (λ x. KeptNode (g.T.Shown.shown (g.T.Shown.seen x))) c.args.trees.now c.x-item.result c.items.x-index c.items-test.true c.x-item.is c.in_ok-push.ensures.kept c.items.invariant.1,
)

pub returns-clause-text : goal.returns-clause-text
returns-clause-text g c = more_done (λ x. node_text (g.T.Shown.shown (g.T.Shown.seen x))) c.args.trees.now c.items.x-index _ _ c.items-test.false c.items.invariant.0

pub returns-clause-kept : goal.returns-clause-kept
returns-clause-kept g c = kept_done (λ x. KeptNode (g.T.Shown.shown (g.T.Shown.seen x))) c.args.trees.now c.items.x-index c.items-test.false c.items.invariant.1
