use Rattle.std.proofs.Common.{sym, subst}
use Rattle.std.specs.Option.{option_map}
use Rattle.op_trees.specs.Tree.{tree}
use Rattle.basics.specs.Options.{IfAny as OfSome}
use Rattle.jani_tree.specs.Canonical.{boxed_node}
use Rattle.jani_tree.specs.Text.{KeptNode}
use Rattle.jani_tree.proofs.Kept.{written, kept_boxed}
use Rattle.jani_tree.proofs.spell.push_some_boxed.Goals as goal

pub returns-in_ok-push_expression-in-Some-clause-kept : goal.returns-in_ok-push_expression-in-Some-clause-kept
returns-in_ok-push_expression-in-Some-clause-kept c =
    written _ (subst (λ e. OfSome KeptNode (option_map boxed_node (option_map tree e))) (sym c.in-Some.is)
    (kept_boxed (tree c.in-Some.e) c.in_ok-push_expression-in-Some.ensures.kept))
