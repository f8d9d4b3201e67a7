use Rattle.std.specs.Prelude.{map}
use Rattle.prism_tree.specs.Syntax.{file_of}
use Rattle.prop_trees.specs.Syntax.{property_of}
use Rattle.prop_to_jani.proofs.Entries.{told_all}
use Rattle.prop_to_jani.proofs.translation.table_of.Goals as goal

pub returns : goal.returns
returns c =
    told_all (file_of c.args.file.now) (map property_of c.args.props.now) c.in_ok-table.table c.ask_properties.new.table c.in_ok-table.ensures.0 c.in_ok-table.ensures.1 c.in_ok-ask_properties.ensures
