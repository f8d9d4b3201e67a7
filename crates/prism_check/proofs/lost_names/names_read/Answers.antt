use Rattle.std.specs.Prelude.{◌++◌, map, Some}
use Rattle.std.specs.List.{flat_map}
use Rattle.std.proofs.Common.{◌∙◌, ap, refl}
use Rattle.gathering.proofs.Loops.{flat_left, none_left}
use Rattle.name_rules.specs.Uses.{used}
use Rattle.prism_check.specs.Levels.{names_read}
use Rattle.prism_check.specs.Views.{demand_by}
use Rattle.prism_check.proofs.lost_names.names_read.Goals as goal

pub loop-demand-preserved : goal.loop-demand-preserved
loop-demand-preserved c =
    flat_left names_read demand_by _ (map (λ s. s.now) c.loop-demand.list.items) (map (λ s. s.now) c.add_names.new.list.items) c.args.demands.now c.loop-demand.demand-index
    c.demand-item.result c.loop-demand-test.true c.demand-item.is c.loop-demand.invariant
    (c.in_ok-add_names.ensures ∙ ap (λ e. map (λ s. s.now) c.loop-demand.list.items ++ used (Some e)) c.expression.ensures)

pub returns : goal.returns
returns c =
    none_left (λ ds. flat_map names_read (map demand_by ds)) _ (map (λ s. s.now) c.loop-demand.list.items) c.args.demands.now c.loop-demand.demand-index refl
    c.loop-demand-test.false c.loop-demand.invariant
