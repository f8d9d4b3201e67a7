use Rattle.std.specs.Prelude.{◌≡◌, map, drop, ◌||◌}
use Rattle.name_rules.specs.Names.{has_name, is_among, named_by}
use Rattle.name_rules.proofs.names.NameSet.of.Given as goal

abbrev pub invariant-loop-entry : goal.invariant-loop-entry
invariant-loop-entry l = (λ x. has_name l.set x || is_among (map named_by (drop l.entry-index l.entries)) x) ≡ is_among (map named_by l.entries)
