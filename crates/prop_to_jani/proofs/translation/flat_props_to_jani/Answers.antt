use Rattle.std.proofs.Common.{List, subst}
use Rattle.std.specs.Prelude.{IfOk, map}
use Rattle.jani_table.specs.Node.{node}
use Rattle.prop_trees.specs.declared.prism.Property.{Property}
use Rattle.prop_trees.specs.Syntax.{property_of}
use Rattle.prop_to_jani.specs.Laws.{IsTranslated}
use Rattle.prop_to_jani.proofs.translation.flat_props_to_jani.Goals as goal

pub returns : goal.returns
returns c = subst (λ (ps : List Property). IfOk c.of_flat.result (λ v. IsTranslated c.args.model.now (map property_of ps) (node v))) c.as_slice.ensures c.of_flat.ensures
