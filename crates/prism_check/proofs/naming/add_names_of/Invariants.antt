use Rattle.std.specs.Prelude.{◌≡◌, ◌++◌, map, drop}
use Rattle.std.specs.List.{flat_map}
use Rattle.name_rules.specs.Names.{named_by}
use Rattle.prism_check.proofs.naming.add_names_of.Given as goal

abbrev pub invariant-loop-part : goal.invariant-loop-part
invariant-loop-part g l =
    map named_by l.list.items ++ flat_map g.T.Naming.names (drop l.part-index l.parts)
    ≡ map named_by l.initial.list.items ++ flat_map g.T.Naming.names l.parts
