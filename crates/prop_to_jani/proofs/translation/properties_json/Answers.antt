use Rattle.std.proofs.Common.{arith, refl, ap, ◌∙◌, map, List}
use Rattle.std.specs.List.{zip}
use Rattle.basics.specs.Lists.{zip_none}
use Rattle.gathering.proofs.Loops.{paired_all}
use Rattle.jani_table.specs.Node.{Node, array, nodes_of}
use Rattle.jani_table.specs.NodeLaws.{node_array}
use Rattle.name_table.specs.declared.entry.Entry.{Entry}
use Rattle.prop_trees.specs.declared.prism.Property.{Property}
use Rattle.prop_trees.specs.Syntax.{property_of}
use Rattle.prop_to_jani.specs.Code.{entry_node}
use Rattle.prop_to_jani.proofs.translation.properties_json.Goals as goal

pub returns : goal.returns
returns c =
    node_array 0 c.loop-i.all
    ∙ ap (λ (l : List Node). array 0 (nodes_of l))
    (paired_all (λ (xs : List Property) (es : List Entry). map (λ p. entry_node c.args.translator.now p.0 p.1) (zip (map property_of xs) es))
    (λ es. refl) (λ xs. zip_none (λ x e. entry_node c.args.translator.now x e) (map property_of xs)) _ _ c.args.props.now c.args.entries.now c.shorter-i-end.result c.loop-i.i
    (omega arith) (omega arith) c.loop-i.invariant)
