use Rattle.std.specs.Prelude.{List, [], ◌∷◌, Some, None, map, unwrap_or}
use Rattle.std.specs.List.{flat_map}
use Rattle.std.specs.Option.{option_map}
use Rattle.std.proofs.Common.{◌∙◌, ap, arith, take_all}
use Rattle.bridge_io.specs.declared.reason.Named.{Named}
use Rattle.op_trees.specs.Tree.{tree}
use Rattle.prism_tree.specs.declared.operator.PrismOp.TheVariants.{Or}
use Rattle.prism_tree.specs.Syntax.{Expression}
use Rattle.jani_meaning.specs.Elements.{location_number}
use Rattle.prism_translation.specs.Conditions.{some_of}
use Rattle.prism_translation.specs.Modules.{truth}
use Rattle.prism_translation.specs.Parts.{is_there}
use Rattle.prism_modules.specs.Code.{file_in, names_in, element_of}
use Rattle.jani_to_prism.specs.Joining.{so_far}
use Rattle.jani_to_prism.proofs.Joining.{joined_more, single_parts, some_joined}
use Rattle.jani_to_prism.proofs.initial.at_initial.Goals as goal

pub loop-n-preserved : goal.loop-n-preserved
loop-n-preserved c =
    let place : Named → Expression =
    λ n. is_there (file_in c.args.names.now) (names_in c.args.names.now) c.args.el.now.number (location_number (element_of c.args.el.now).automaton n.name) in
    joined_more Or (λ n. place n ∷ []) (λ (n : Named). n) c.initial-n-items.result.now c.loop-n.n-index c.n-item.result None (option_map tree c.loop-n.all) (Some (tree c.in_ok-joined.field-0))
    c.loop-n-test.true c.n-item.is c.loop-n.invariant
    (c.in_ok-joined.ensures
    ∙ ap (λ e. so_far Or (option_map tree c.loop-n.all) (e ∷ []))
    (c.in_ok-place.ensures
    ∙ ap (is_there (file_in c.args.names.now) (names_in c.args.names.now) c.args.el.now.number) (c.location.ensures ∙ ap (location_number (element_of c.args.el.now).automaton) c.as_str.ensures)))

pub returns : goal.returns
returns c =
    let place : Named → Expression =
    λ n. is_there (file_in c.args.names.now) (names_in c.args.names.now) c.args.el.now.number (location_number (element_of c.args.el.now).automaton n.name) in
    c.or_truth.ensures
    ∙ ap (λ o. unwrap_or o truth)
    (c.loop-n.invariant
    ∙ ap (λ (l : List Named). so_far Or None (flat_map (λ n. place n ∷ []) (map (λ n. n) l))) (take_all c.loop-n.n-index c.initial-n-items.result.now (omega arith))
    ∙ ap (so_far Or None) (single_parts place c.initial-n-items.result.now))
    ∙ some_joined (map place c.initial-n-items.result.now)
    ∙ ap (λ (l : List Named). some_of (map place l)) c.initial-n-items.ensures
