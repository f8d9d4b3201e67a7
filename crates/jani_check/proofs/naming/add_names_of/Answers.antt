use Rattle.std.specs.Prelude.{map}
use Rattle.std.specs.List.{flat_map}
use Rattle.std.proofs.Common.{refl}
use Rattle.gathering.proofs.Loops.{each_left, none_left}
use Rattle.name_rules.specs.Names.{named_by}
use Rattle.jani_check.proofs.naming.add_names_of.Goals as goal

pub loop-part-preserved : goal.loop-part-preserved
loop-part-preserved g c =
    each_left g.T.Naming.names _ (map named_by c.loop-part.list.items) (map named_by c.add_names.new.list.items) c.args.parts.now c.loop-part.part-index c.part-item.result
    c.loop-part-test.true c.part-item.is c.loop-part.invariant c.in_ok-add_names.ensures

pub returns : goal.returns
returns g c = none_left (λ xs. flat_map g.T.Naming.names xs) _ (map named_by c.loop-part.list.items) c.args.parts.now c.loop-part.part-index refl c.loop-part-test.false c.loop-part.invariant
