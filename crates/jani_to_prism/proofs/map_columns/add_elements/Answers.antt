use Rattle.std.proofs.Common.{◌++◌, ◌∙◌, ap, map, List}
use Rattle.gathering.specs.Lists.{list_for}
use Rattle.gathering.proofs.Loops.{flat_seen}
use Rattle.prism_targets.specs.Elements.{Element}
use Rattle.prism_modules.specs.LastingVar.{LastingVar}
use Rattle.prism_modules.specs.Code.{element_of, lasting_of}
use Rattle.jani_to_prism.specs.MapParts.{columns_at}
use Rattle.jani_to_prism.proofs.map_columns.add_elements.Goals as goal

pub loop-el-preserved : goal.loop-el-preserved
loop-el-preserved c =
    flat_seen (λ (el : Element). columns_at (map lasting_of (list_for c.args.homes.now el.number)) el) element_of c.args.els.now c.loop-el.el-index c.el-item.result c.args.all.now c.loop-el.all
    c.add_element.new.all c.loop-el-test.true c.el-item.is c.loop-el.invariant
    (c.in_ok-add_element.ensures ∙ ap (λ (xs : List LastingVar). c.loop-el.all ++ columns_at (map lasting_of xs) (element_of c.el-item.result)) c.get.ensures)
