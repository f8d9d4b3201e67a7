use Rattle.std.specs.Prelude.{◌≡◌, [], map}
use Rattle.std.specs.List.{flat_map}
use Rattle.std.proofs.Common.{◌∙◌, ap, sym}
use Rattle.prism_tree.specs.Syntax.{file_of, formula_of, module_of}
use Rattle.name_rules.specs.Names.{has_name}
use Rattle.prism_check.specs.Demands.{formula_demands}
use Rattle.prism_check.specs.Known.{own_unknown}
use Rattle.prism_check.specs.NameFaults.{unknown_by}
use Rattle.prism_check.specs.Views.{demand_by}
use Rattle.prism_check.proofs.KnownNames.{if_known, none_told}
use Rattle.prism_check.proofs.LostNames.{unknown_is}
use Rattle.prism_check.proofs.scope.are_known.Goals as goal

pub returns : goal.returns
returns c =
    let f = c.args.file.now in
    let known = has_name c.args.scope.now.known in
    let bodies = flat_map formula_demands (map formula_of f.formulas) in
    let judged : flat_map (unknown_by known) (map demand_by c.deref.result.now) ≡ [] =
    none_told _ c.judge_unknown.result c.judge_unknown.ensures (sym c.is_some.ensures ∙ c.if-is_some.false) in
    if_known (λ e. record {
      bodies =
          sym (unknown_is (file_of f) known bodies c.requires.known)
          ∙ sym (ap (flat_map (unknown_by known)) (ap (map demand_by) c.deref.ensures.value ∙ c.in_ok-bodies.ensures ∙ ap (λ fs. flat_map formula_demands (map formula_of fs)) c.as_slice-2.ensures))
          ∙ judged;
      contents =
          ap (λ k. flat_map (own_unknown k) (map module_of f.modules)) (sym c.requires.known)
          ∙ ap (λ ms. flat_map (own_unknown known) (map module_of ms)) (sym c.as_slice-3.ensures) ∙ e;
    }) c.contents_known.result c.contents_known.ensures
