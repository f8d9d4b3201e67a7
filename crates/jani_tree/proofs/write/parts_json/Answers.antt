use Rattle.std.proofs.Common.{ap, ◌∙◌, map-id}
use Rattle.jani_tree.specs.Canonical.{list_node, part_node}
use Rattle.jani_tree.proofs.write.parts_json.Goals as goal

pub returns : goal.returns
returns c = c.in_ok-list.ensures ∙ ap (list_node part_node c.args.at) (map-id _)
