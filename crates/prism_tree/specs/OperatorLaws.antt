-- The operators of the PRISM language keep the laws of a set of operators.
use Rattle.op_trees.specs.Operators.{IsLawful}
use Rattle.op_trees.specs.Standard.{standard_meaning}
use Rattle.op_trees.specs.StandardLaws.{lawful_along, standard_lawful}
use Rattle.prism_tree.specs.Operators.{prism_meaning, standard}

pub prism_lawful : IsLawful prism_meaning
prism_lawful = lawful_along standard standard_meaning standard_lawful
