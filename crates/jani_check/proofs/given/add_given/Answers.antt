use Rattle.std.specs.Prelude.{map}
use Rattle.jani_tree.specs.Syntax.{location_of, write_of}
use Rattle.jani_check.specs.TypeFaults.{targets}
use Rattle.name_rules.specs.Names.{named_by}
use Rattle.gathering.proofs.Loops.{flat_left}
use Rattle.jani_check.proofs.Parts.{added_of, each_name}
use Rattle.jani_check.proofs.given.add_given.Goals as goal

pub loop-l-preserved : goal.loop-l-preserved
loop-l-preserved c =
    flat_left (λ k. targets k.values) location_of _ (map named_by c.loop-l.list.items) (map named_by c.add_names_of.new.list.items) c.args.locations.now c.loop-l.l-index c.l-item.result
    c.loop-l-test.true c.l-item.is c.loop-l.invariant
    (added_of (map named_by c.loop-l.list.items) (map named_by c.add_names_of.new.list.items) _ _ c.in_ok-add_names_of.ensures
    (each_name (λ w. w.target) write_of c.as_slice.result.now c.l-item.result.values c.as_slice.ensures))
