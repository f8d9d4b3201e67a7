use Rattle.std.proofs.Common.{◌∙◌, ap}
use Rattle.jani_table.specs.Node.{node}
use Rattle.jani_props.specs.declared.words.OpWord.TheVariants.{Property}
use Rattle.jani_props.specs.declared.words.PropOp.TheVariants as P
use Rattle.jani_props.proofs.Cleaned.{has_op}
use Rattle.jani_props.proofs.paths.extreme.Goals as goal

pub returns-in_ok-it-in-EMax : goal.returns-in_ok-it-in-EMax
returns-in_ok-it-in-EMax c = (has_op (node c.args.value.now) P.EMax (c.requires.op ∙ ap Property c.in-EMax.is), c.in_ok-it-in-EMax.ensures.structure, c.in_ok-it-in-EMax.ensures.reach)

pub returns-in_ok-it-in-EMin : goal.returns-in_ok-it-in-EMin
returns-in_ok-it-in-EMin c = (has_op (node c.args.value.now) P.EMin (c.requires.op ∙ ap Property c.in-EMin.is), c.in_ok-it-in-EMin.ensures.structure, c.in_ok-it-in-EMin.ensures.reach)
