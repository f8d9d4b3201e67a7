use Rattle.std.specs.Prelude.{map}
use Rattle.std.specs.List.{flat_map}
use Rattle.std.proofs.Common.{◌∙◌, ap}
use Rattle.prism_tree.specs.Syntax.{formula_of}
use Rattle.prism_flat.proofs.Contents.{if_ok}
use Rattle.prism_check.specs.Demands.{formula_demands}
use Rattle.prism_check.specs.Views.{demand_by}
use Rattle.prism_check.proofs.TypesJudged.{file_is}
use Rattle.prism_check.proofs.types.judge_all.Goals as goal

pub returns : goal.returns
returns c =
    if_ok _ _
    (λ best h. file_is c.args.file.now c.args.names.now c.requires.names c.requires.unchanged (map demand_by c.deref.result.now) (map demand_by c.deref-2.result.now) c.as_slice-2.result.now
    c.judge_demands-in_outer.result c.judge_demands-in_bodies.result best
    (ap (map demand_by) c.deref.ensures.value ∙ c.in_ok-outer.ensures)
    (ap (map demand_by) c.deref-2.ensures.value ∙ c.in_ok-bodies.ensures ∙ ap (λ fs. flat_map formula_demands (map formula_of fs)) c.as_slice.ensures)
    c.as_slice-2.ensures c.judge_demands-in_outer.ensures c.judge_demands-in_bodies.ensures h)
    c.judge_modules.result c.judge_modules.ensures
