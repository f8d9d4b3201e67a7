use Rattle.std.proofs.Common.{subst, map}
use Rattle.model_files.specs.PrismFile.{IsReadPrism}
use Rattle.prop_trees.specs.Syntax.{property_of}
use Rattle.model_translation.proofs.Paired.{short_titles}
use Rattle.model_translation.proofs.properties.translate_with_properties.Goals as goal

-- the names of a model that is read are short
pub written-requires-clause-names : goal.written-requires-clause-names
written-requires-clause-names c =
    let read = subst (IsReadPrism c.requires.0) c.in-Ok.is c.requires.1 in
    c.prism_names_law.ensures c.requires.0 c.in-Ok.checked.file read.read.clean read.read.spells

-- and those of its properties
pub written-requires-clause-titles : goal.written-requires-clause-titles
written-requires-clause-titles c =
    short_titles c.property_names_law.ensures c.args.properties.now c.in-Ok.checked.file (map property_of c.in-Ok-read_props.props) c.in-Ok-read_props.ensures.reads
