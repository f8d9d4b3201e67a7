use Rattle.std.proofs.Common.{◌∙◌, sym}
use Rattle.jani_table.specs.Node.{node}
use Rattle.jani_props.proofs.Cleaned.{values_other}
use Rattle.jani_props.proofs.paths.asked_in.Goals as goal

pub unreachable-requires-in-Other : goal.unreachable-requires-in-Other
unreachable-requires-in-Other c = values_other (node c.args.value.now) (sym c.op_of.ensures ∙ c.in-Other.is) c.requires
