use Rattle.std.specs.Prelude.{[], ◌∷◌}
use Rattle.op_trees.specs.Tree.{tree}
use Rattle.std.specs.List.{flat_map}
use Rattle.std.proofs.Common.{◌∙◌, sym, ap}
use Rattle.name_rules.specs.Least.{soonest}
use Rattle.prop_trees.specs.Syntax.{jani_path_of}
use Rattle.prop_trees.specs.Trees.{path_parts, state, steps}
use Rattle.jani_props.proofs.Judging.{more_parts}
use Rattle.jani_props.proofs.roles.judge_path.Goals as goal

pub returns-in-UntilWithin : goal.returns-in-UntilWithin
returns-in-UntilWithin g c =
    more_parts (g.R.PartRule.part_faults c.args.rule.now) (steps, tree c.in-UntilWithin.k) ((state, tree c.in-UntilWithin.a) ∷ (state, tree c.in-UntilWithin.b) ∷ []) _ _ _
    c.judge_part-steps-in-UntilWithin.ensures c.judge_both-in-UntilWithin.ensures
    ∙ ap (λ p. soonest c.args.best (flat_map (g.R.PartRule.part_faults c.args.rule.now) (path_parts (jani_path_of p)))) (sym c.in-UntilWithin.is)
