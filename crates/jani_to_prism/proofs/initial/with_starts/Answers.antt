use Rattle.std.proofs.Common.{◌∙◌, ap, arith, map, take_all, List}
use Rattle.std.specs.List.{flat_map}
use Rattle.std.specs.Option.{option_map}
use Rattle.op_trees.specs.Tree.{tree}
use Rattle.prism_tree.specs.declared.operator.PrismOp.TheVariants.{And}
use Rattle.prism_translation.specs.Conditions.{start_part}
use Rattle.prism_modules.specs.LastingVar.{LastingVar}
use Rattle.prism_modules.specs.Code.{file_in, names_in, lasting_of}
use Rattle.jani_to_prism.specs.Joining.{so_far}
use Rattle.jani_to_prism.proofs.Joining.{joined_more}
use Rattle.jani_to_prism.proofs.initial.with_starts.Goals as goal

pub loop-i-preserved : goal.loop-i-preserved
loop-i-preserved c =
    joined_more And (start_part (file_in c.args.names.now) (names_in c.args.names.now)) lasting_of c.args.vars.now c.loop-i.i c.index-vars-i.result (option_map tree c.args.before) (option_map tree c.loop-i.all)
    (option_map tree c.in_ok-all.all) (omega arith) c.index-vars-i.is c.loop-i.invariant c.in_ok-all.ensures

pub returns : goal.returns
returns c =
    c.loop-i.invariant
    ∙ ap (λ (l : List LastingVar). so_far And (option_map tree c.args.before) (flat_map (start_part (file_in c.args.names.now) (names_in c.args.names.now)) (map lasting_of l))) (take_all c.loop-i.i c.args.vars.now (omega arith))
