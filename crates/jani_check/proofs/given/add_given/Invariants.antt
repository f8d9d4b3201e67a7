use Rattle.std.specs.Prelude.{◌≡◌, ◌++◌, map, drop}
use Rattle.std.specs.List.{flat_map}
use Rattle.jani_tree.specs.Syntax.{location_of}
use Rattle.jani_check.specs.TypeFaults.{targets}
use Rattle.name_rules.specs.Names.{named_by}
use Rattle.jani_check.proofs.given.add_given.Given as goal

abbrev pub invariant-loop-l : goal.invariant-loop-l
invariant-loop-l l =
    map named_by l.list.items ++ flat_map (λ k. targets k.values) (map location_of (drop l.l-index l.locations))
    ≡ map named_by l.initial.list.items ++ flat_map (λ k. targets k.values) (map location_of l.locations)
