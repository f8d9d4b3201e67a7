use Rattle.std.proofs.Common.{◌≡◌, take, map, flat_map}
use Rattle.jani_tree.specs.Syntax.{automaton_of}
use Rattle.name_rules.specs.Names.{named_by}
use Rattle.jani_props.specs.Faults.{given_in}
use Rattle.jani_props.proofs.model.given_names.Given as goal

abbrev pub invariant-loop-a : goal.invariant-loop-a
invariant-loop-a l = map named_by l.list.items ≡ flat_map (λ a. flat_map given_in a.locations) (map automaton_of (take l.a-index l.a-items))
