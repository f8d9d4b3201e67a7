use Rattle.std.proofs.Common.{◌∙◌, sym}
use Rattle.jani_table.specs.Node.{node}
use Rattle.jani_props.proofs.Cleaned.{path_operator, path_other}
use Rattle.jani_props.proofs.paths.path.Goals as goal

pub unreachable-requires : goal.unreachable-requires
unreachable-requires c = path_operator (node c.args.value.now) _ (sym c.op_of.ensures ∙ c.in-Operator.is) c.requires

pub unreachable-requires-in-Other : goal.unreachable-requires-in-Other
unreachable-requires-in-Other c = path_other (node c.args.value.now) (sym c.op_of.ensures ∙ c.in-Other.is) c.requires
