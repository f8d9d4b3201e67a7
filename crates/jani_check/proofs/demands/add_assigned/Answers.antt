use Rattle.std.specs.Prelude.{map}
use Rattle.std.proofs.Common.{refl, ◌∙◌, ap}
use Rattle.std.proofs.lemmas.List.{map-append}
use Rattle.jani_tree.specs.Syntax.{write_of}
use Rattle.jani_check.specs.Demands.{assigned}
use Rattle.jani_check.specs.Views.{demand_by}
use Rattle.gathering.proofs.Loops.{map_left, none_left}
use Rattle.jani_check.proofs.demands.add_assigned.Goals as goal

pub loop-write-preserved : goal.loop-write-preserved
loop-write-preserved c =
    map_left assigned write_of _ (map demand_by c.loop-write.list.items) (map demand_by c.push.new.self.items) c.args.writes.now c.loop-write.write-index c.write-item.result _
    c.loop-write-test.true c.write-item.is c.loop-write.invariant (ap (map demand_by) c.in_ok-push.ensures.items ∙ map-append demand_by c.loop-write.list.items _) refl

pub returns : goal.returns
returns c = none_left (λ l. map assigned (map write_of l)) _ (map demand_by c.loop-write.list.items) c.args.writes.now c.loop-write.write-index refl c.loop-write-test.false c.loop-write.invariant
