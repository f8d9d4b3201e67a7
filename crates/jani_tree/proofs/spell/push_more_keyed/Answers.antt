use Rattle.jani_tree.specs.Pieces.{keyed_text}
use Rattle.jani_tree.proofs.Pieces.{more_next, more_done}
use Rattle.jani_tree.specs.Canonical.{name_node}
use Rattle.jani_tree.specs.Text.{KeptNode}
use Rattle.jani_tree.proofs.Kept.{kept_next, kept_done}
use Rattle.jani_tree.proofs.spell.push_more_keyed.Goals as goal

pub items-preserved : goal.items-preserved
items-preserved c = (
  more_next (keyed_text c.args.lead.now) c.args.names.now c.n-item.result c.items.n-index _ _ _ _
      c.items-test.true c.n-item.is c.in_ok-extend_from_slice.ensures.items c.in_ok-push_keyed.ensures.text c.items.invariant.0,
  kept_next (λ n. KeptNode (name_node n)) c.args.names.now c.n-item.result c.items.n-index c.items-test.true c.n-item.is c.in_ok-push_keyed.ensures.kept c.items.invariant.1,
)

pub returns-clause-text : goal.returns-clause-text
returns-clause-text c = more_done (keyed_text c.args.lead.now) c.args.names.now c.items.n-index _ _ c.items-test.false c.items.invariant.0

pub returns-clause-kept : goal.returns-clause-kept
returns-clause-kept c = kept_done (λ n. KeptNode (name_node n)) c.args.names.now c.items.n-index c.items-test.false c.items.invariant.1
