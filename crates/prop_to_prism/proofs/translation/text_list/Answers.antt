use Rattle.std.proofs.Common.{◌∙◌, ap, map, List}
use Rattle.jani_tree.specs.declared.syntax.JaniFile.{JaniFile}
use Rattle.jani_tree.specs.Syntax.{File, file_of}
use Rattle.name_table.specs.declared.entry.Entry.{Entry}
use Rattle.prop_trees.specs.Trees.{JaniProperty}
use Rattle.prop_trees.specs.Syntax.{jani_property_of}
use Rattle.prop_to_prism.specs.Code.{text_by}
use Rattle.prop_to_prism.proofs.Written.{is_written}
use Rattle.prop_to_prism.proofs.translation.text_list.Goals as goal

pub returns : goal.returns
returns c =
    let file : File = file_of c.args.model.now in
    let ps : List JaniProperty = map jani_property_of c.args.props.now in
    is_written c.properties_law.ensures.read file c.file-file.ensures.checked ps c.requires.props c.from_vec.result
    (c.from_vec.ensures
    ∙ c.in_ok-text.ensures
    ∙ ap (λ (f : JaniFile). text_by (file_of f) c.args.entries.now ps) c.file-file.ensures.same
    ∙ ap (λ (es : List Entry). text_by file es ps) c.requires.entries)
