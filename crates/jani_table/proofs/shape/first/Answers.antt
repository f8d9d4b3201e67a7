use Rattle.std.proofs.Common.{ap, ◌∙◌}
use Rattle.std.specs.Option.{option_map}
use Rattle.jani_table.specs.Node.{node}
use Rattle.jani_table.proofs.Values.{first_node}
use Rattle.jani_table.proofs.shape.first.Goals as goal

pub returns : goal.returns
returns c = ap (option_map node) c.get.ensures ∙ first_node _
