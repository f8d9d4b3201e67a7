use Rattle.std.proofs.Common.{◌∙◌, ap, map, subst}
use Rattle.prism_tree.specs.Syntax.{module_of, rewards_of}
use Rattle.prism_instance.specs.Shapes.{bodies}
use Rattle.prism_instance.specs.Sites.{AreEarnings, sorted, sorted_of}
use Rattle.prism_instance.proofs.parts.built_choices.Goals as goal

pub built_choices_of-requires-clause-modules : goal.built_choices_of-requires-clause-modules
built_choices_of-requires-clause-modules c = ap (map sorted_of) c.as_slice-3.ensures.value ∙ c.in_ok-modules.ensures ∙ ap (λ l. map sorted (bodies (map module_of l))) c.as_slice.ensures

pub built_choices_of-requires-clause-earned : goal.built_choices_of-requires-clause-earned
built_choices_of-requires-clause-earned c = subst (λ l. AreEarnings (map rewards_of l) c.in_ok-earnings.earnings) c.as_slice-2.ensures c.in_ok-earnings.ensures
