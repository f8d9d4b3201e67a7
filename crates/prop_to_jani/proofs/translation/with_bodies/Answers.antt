use Rattle.std.proofs.Common.{◌≡◌, subst}
use Rattle.std.specs.Prelude.{IfOk, map}
use Rattle.jani_table.specs.Node.{Node, node}
use Rattle.prop_trees.specs.Syntax.{property_of}
use Rattle.prop_to_jani.proofs.Translating.{written_node}
use Rattle.prop_to_jani.proofs.translation.with_bodies.Goals as goal

pub returns : goal.returns
returns c =
    subst (λ (n : Node). IfOk c.properties_json.result (λ v. node v ≡ n))
    (written_node c.args.model.now.file c.args.model.now.order c.requires.order
    (record { names = c.args.names; bodies = c.args.bodies; rewards = c.args.entries.rewards })
    c.requires.names c.requires.bodies c.requires.rewards (map property_of c.args.props.now) c.args.entries.properties.now c.requires.properties)
    c.properties_json.ensures
