use Rattle.std.proofs.Common.{◌++◌, map, refl, List}
use Rattle.carry_maps.specs.declared.map.Column.TheVariants as at
use Rattle.prism_targets.specs.Elements.{Lasting}
use Rattle.prism_modules.specs.LastingVar.{LastingVar}
use Rattle.prism_modules.specs.Code.{lasting_of}
use Rattle.gathering.proofs.Loops.{map_left, none_left}
use Rattle.jani_to_prism.specs.MapParts.{variable_columns}
use Rattle.jani_to_prism.proofs.map_columns.add_variables.Goals as goal

pub loop-x-preserved : goal.loop-x-preserved
loop-x-preserved c =
    map_left (λ (x : Lasting). at.Variable x.number) lasting_of _ c.loop-x.all c.push.new.self c.args.vars.now c.loop-x.x-index c.x-item.result (at.Variable c.x-item.result.number) c.loop-x-test.true
    c.x-item.is c.loop-x.invariant c.in_ok-push.ensures.ok refl

pub returns : goal.returns
returns c =
    none_left (λ (l : List LastingVar). variable_columns (map lasting_of l)) (c.args.all.now ++ variable_columns (map lasting_of c.args.vars.now)) c.loop-x.all c.args.vars.now c.loop-x.x-index refl
    c.loop-x-test.false c.loop-x.invariant
