use Rattle.std.proofs.Common.{List, map, subst}
use Rattle.std.specs.Prelude.{IfOk}
use Rattle.jani_tree.specs.Syntax.{file_of}
use Rattle.prop_trees.specs.declared.jani.JaniProperty.{JaniProperty}
use Rattle.prop_trees.specs.Syntax.{jani_property_of}
use Rattle.prop_to_prism.specs.Laws.{AreWrittenAs}
use Rattle.prop_to_prism.proofs.translation.props_to_prism.Goals as goal

pub returns : goal.returns
returns c = subst (λ (ps : List JaniProperty). IfOk c.text_list.result (λ text. AreWrittenAs (file_of c.args.model.now) (map jani_property_of ps) text)) c.as_slice-props.ensures c.text_list.ensures
