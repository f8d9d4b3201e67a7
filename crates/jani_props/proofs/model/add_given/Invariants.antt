use Rattle.std.proofs.Common.{◌≡◌, ◌++◌, take, map, flat_map}
use Rattle.jani_tree.specs.Syntax.{location_of}
use Rattle.name_rules.specs.Names.{named_by}
use Rattle.jani_props.specs.Faults.{given_in}
use Rattle.jani_props.proofs.model.add_given.Given as goal

abbrev pub invariant-loop-l : goal.invariant-loop-l
invariant-loop-l l = map named_by l.list.items ≡ map named_by l.initial.list.items ++ flat_map given_in (map location_of (take l.l-index l.l-items))
