use Rattle.std.specs.Prelude.{◌≡◌, map, drop}
use Rattle.name_rules.specs.Names.{has_name, with_all}
use Rattle.name_rules.proofs.names.NameSet.add_all.Given as goal

abbrev pub invariant-loop-name : goal.invariant-loop-name
invariant-loop-name l =
    with_all (has_name l.self) (map (λ s. s.now) (drop l.name-index l.names)) ≡ with_all (has_name l.initial.self) (map (λ s. s.now) l.names)
