-- The process that an instance is. (This project's own rule.)
use Rattle.op_trees.specs.declared.operator.Operator as Operator
use Rattle.std.specs.declared.cmp.PartialEq as PartialEq
use Rattle.process_core.specs.Steps.{Process}
use Rattle.instance_start.specs.Given.{given_by}
use Rattle.prism_tree.specs.declared.operator.PrismOp.{PrismOp}
use Rattle.network.specs.declared.instance.Outlined as Outlined
use Rattle.network.specs.declared.instance.Instance.{Instance}
use Rattle.prism_instance.specs.Described.{described}
use Rattle.prism_instance.specs.declared.model.PrismModel.{PrismModel}

abbrev pub process_of : {given : Operator.Ghosts PrismOp} {compared : PartialEq.Ghosts PrismOp} {outlined : Outlined.Ghosts PrismModel} → Instance PrismOp PrismModel given compared outlined → Process
process_of i = described i.model.flat.now (given_by i.model.given.now)
