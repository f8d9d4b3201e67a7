use Rattle.std.proofs.Common.{◌∙◌, ap, arith, map, subst, sym, take_all, List, None}
use Rattle.std.specs.List.{flat_map}
use Rattle.std.specs.Option.{option_map}
use Rattle.std.proofs.lemmas.List.Elements.{All-get_or}
use Rattle.op_trees.specs.Tree.{tree}
use Rattle.prism_tree.specs.declared.operator.PrismOp.TheVariants.{And}
use Rattle.prism_translation.specs.Conditions.{location_part}
use Rattle.prism_modules.specs.Element.{Element as CodeElement}
use Rattle.prism_modules.specs.Code.{file_in, names_in, element_of, IsElement}
use Rattle.jani_to_prism.specs.Joining.{so_far}
use Rattle.jani_to_prism.proofs.Joining.{joined_more}
use Rattle.jani_to_prism.proofs.initial.with_locations.Goals as goal

pub with_location-requires : goal.with_location-requires
with_location-requires c =
    subst IsElement (sym c.index-els-i.is) (All-get_or IsElement c.args.els.now c.loop-i.i c.index-els-i.result (omega arith) c.requires)

pub loop-i-preserved : goal.loop-i-preserved
loop-i-preserved c =
    joined_more And (location_part (file_in c.args.names.now) (names_in c.args.names.now)) element_of c.args.els.now c.loop-i.i c.index-els-i.result None (option_map tree c.loop-i.all)
    (option_map tree c.in_ok-all.all) (omega arith) c.index-els-i.is c.loop-i.invariant c.in_ok-all.ensures

pub returns : goal.returns
returns c =
    c.loop-i.invariant
    ∙ ap (λ (l : List CodeElement). so_far And None (flat_map (location_part (file_in c.args.names.now) (names_in c.args.names.now)) (map element_of l))) (take_all c.loop-i.i c.args.els.now (omega arith))
