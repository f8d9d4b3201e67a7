use Rattle.std.specs.Prelude.{◌≡◌, map, drop}
use Rattle.std.specs.List.{list_any}
use Rattle.name_rules.specs.Names.{has_name}
use Rattle.name_rules.proofs.names.NameSet.has_some.Given as goal

abbrev pub invariant-loop-name : goal.invariant-loop-name
invariant-loop-name l = list_any (has_name l.self) (map (λ s. s.now) (drop l.name-index l.names)) ≡ list_any (has_name l.self) (map (λ s. s.now) l.names)
