use Rattle.std.proofs.Common.{sym, subst}
use Rattle.op_trees.specs.declared.tree.Ty.TheVariants as T
use Rattle.jani_tree.specs.Syntax.{kind_of}
use Rattle.jani_tree.specs.Canonical.{kind_node}
use Rattle.jani_tree.specs.Text.{KeptNode}
use Rattle.jani_tree.proofs.Kept.{written, kept_type, kept_bare_bounds}
use Rattle.jani_tree.proofs.spell.push_kind.Goals as goal

pub returns-in-Bool-clause-kept : goal.returns-in-Bool-clause-kept
returns-in-Bool-clause-kept c =
    written _ (subst (λ k. KeptNode (kind_node 0 (kind_of k))) (sym c.in-Bool.is) (kept_type 0 T.Bool))

pub returns-in-Int-clause-kept : goal.returns-in-Int-clause-kept
returns-in-Int-clause-kept c =
    written _ (subst (λ k. KeptNode (kind_node 0 (kind_of k))) (sym c.in-Int.is) (kept_type 0 T.Int))

pub returns-in-Real-clause-kept : goal.returns-in-Real-clause-kept
returns-in-Real-clause-kept c =
    written _ (subst (λ k. KeptNode (kind_node 0 (kind_of k))) (sym c.in-Real.is) (kept_type 0 T.Real))

pub returns-in-RealBounded-clause-kept : goal.returns-in-RealBounded-clause-kept
returns-in-RealBounded-clause-kept c =
    written _ (subst (λ k. KeptNode (kind_node 0 (kind_of k))) (sym c.in-RealBounded.is) (kept_bare_bounds 0 T.Real))

pub returns-in-OneSided-clause-kept : goal.returns-in-OneSided-clause-kept
returns-in-OneSided-clause-kept c =
    written _ (subst (λ k. KeptNode (kind_node 0 (kind_of k))) (sym c.in-OneSided.is) (kept_bare_bounds 0 T.Int))
