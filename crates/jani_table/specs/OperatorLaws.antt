-- The operators of JANI expressions keep the laws of a set of operators.
use Rattle.op_trees.specs.Operators.{IsLawful}
use Rattle.op_trees.specs.Standard.{standard_meaning}
use Rattle.op_trees.specs.StandardLaws.{lawful_along, standard_lawful}
use Rattle.jani_table.specs.Operators.{jani_meaning, standard}

pub jani_lawful : IsLawful jani_meaning
jani_lawful = lawful_along standard standard_meaning standard_lawful
