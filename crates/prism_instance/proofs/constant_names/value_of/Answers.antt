use Rattle.std.proofs.Common.{◌∙◌}
use Rattle.op_trees.specs.Tree.{tree}
use Rattle.prism_instance.specs.Views.{values_in}
use Rattle.prism_instance.proofs.Values.{answers_seen}
use Rattle.prism_instance.proofs.constant_names.value_of.Goals as goal

pub returns : goal.returns
returns c = c.eval.ensures ∙ answers_seen (tree c.args.e.now) (values_in c.args.names.now)
