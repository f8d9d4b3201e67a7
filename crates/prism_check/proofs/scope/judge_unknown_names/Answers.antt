use Rattle.std.specs.Prelude.{map, IfOk}
use Rattle.std.specs.List.{flat_map}
use Rattle.std.proofs.Common.{◌≡◌, ◌∙◌, ap, subst}
use Rattle.prism_tree.specs.Syntax.{file_of, formula_of, module_of}
use Rattle.name_rules.specs.Least.{soonest}
use Rattle.prism_check.specs.Demands.{outer_demands, formula_demands}
use Rattle.prism_check.specs.NameFaults.{unknown, unknown_by, unknown_in}
use Rattle.name_rules.specs.Names.{has_name}
use Rattle.prism_check.specs.Views.{demand_by}
use Rattle.name_rules.proofs.Append.{three_parts}
use Rattle.prism_check.proofs.LostNames.{unknown_is}
use Rattle.prism_check.proofs.scope.judge_unknown_names.Goals as goal

pub returns : goal.returns
returns c =
    let f = c.args.file.now in
    let known = has_name c.args.scope.now.known in
    let bodies = flat_map formula_demands (map formula_of f.formulas) in
    subst (λ o. IfOk c.judge_modules.result (λ best. best ≡ o))
    (ap (λ ms. soonest c.judge_unknown-in_bodies.result (flat_map (unknown_in (file_of f)) (map module_of ms))) c.as_slice-2.ensures
    ∙ three_parts (flat_map (unknown (file_of f)) (outer_demands (file_of f))) (flat_map (unknown (file_of f)) bodies)
    (flat_map (unknown_in (file_of f)) (map module_of f.modules)) c.args.before c.judge_unknown-in_outer.result c.judge_unknown-in_bodies.result
    (c.judge_unknown-in_outer.ensures ∙ ap (soonest c.args.before)
    (ap (flat_map (unknown_by known)) (ap (map demand_by) c.deref.ensures.value ∙ c.in_ok-outer.ensures)
    ∙ unknown_is (file_of f) known (outer_demands (file_of f)) c.requires.known))
    (c.judge_unknown-in_bodies.ensures ∙ ap (soonest c.judge_unknown-in_outer.result)
    (ap (flat_map (unknown_by known)) (ap (map demand_by) c.deref-2.ensures.value ∙ c.in_ok-bodies.ensures ∙ ap (λ fs. flat_map formula_demands (map formula_of fs)) c.as_slice.ensures)
    ∙ unknown_is (file_of f) known bodies c.requires.known)))
    c.judge_modules.ensures
