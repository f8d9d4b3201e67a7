use Rattle.std.specs.Prelude.{◌++◌, List, Some, None, if◌then◌else◌, map, unwrap_or}
use Rattle.std.specs.List.{flat_map}
use Rattle.std.proofs.Common.{◌∙◌, ap, ap₂, sym}
use Rattle.prism_translation.specs.Conditions.{condition_parts, location_part, restriction_part, start_part}
use Rattle.prism_translation.specs.Elements.{Element, Lasting, elements, lasting_variables}
use Rattle.prism_translation.specs.Modules.{all_of, truth}
use Rattle.prism_tree.specs.declared.operator.PrismOp.TheVariants.{And}
use Rattle.prism_modules.specs.Code.{file_in, names_in}
use Rattle.jani_to_prism.specs.Joining.{so_far}
use Rattle.jani_to_prism.proofs.Joining.{all_joined, three_joined}
use Rattle.jani_to_prism.proofs.initial.condition.Goals as goal

pub returns-then-not-names : goal.returns-then-not-names
returns-then-not-names c =
    sym (ap (λ b. if b then Some (all_of (condition_parts (file_in c.args.names.now) (names_in c.args.names.now))) else None) (sym c.requires.names.condition_is ∙ c.if-not-names.true))

pub returns : goal.returns
returns c =
    let file = file_in c.args.names.now in
    let names = names_in c.args.names.now in
    ap Some
    (c.or_truth.ensures
    ∙ ap (λ o. unwrap_or o truth)
    (c.in_ok-all.ensures
    ∙ ap₂ (λ (els : List Element) (xs : List Lasting). so_far And (so_far And (so_far And None (flat_map (location_part file names) els)) (flat_map (start_part file names) xs)) (restriction_part file names)) c.requires.elements c.requires.vars
    ∙ three_joined (flat_map (location_part file names) (elements file)) (flat_map (start_part file names) (lasting_variables file)) (restriction_part file names))
    ∙ all_joined (condition_parts file names))
    ∙ sym (ap (λ b. if b then Some (all_of (condition_parts file names)) else None) (sym c.requires.names.condition_is ∙ c.if-not-names.false))
